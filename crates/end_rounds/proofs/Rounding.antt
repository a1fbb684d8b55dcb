-- What the shares of both ends and their meeting leave.
use Rattle.std.proofs.Common.{◌≡◌, ◌⊎◌, inl, inr, ℕ, ◌+◌, Bool, true, false, cond, Option, List, length, refl, sym, ap, ◌∙◌, subst}
use Rattle.smbd_base.specs.declared.end_id.EndId.{EndId}
use Rattle.smbd_base.specs.declared.event.Event.{Event}
use Rattle.smbd_base.specs.declared.next.Next.TheVariants as due
use Rattle.smbd_base.specs.Limits.{Limits}
use Rattle.smbd_base.specs.History.{next_event, negotiation_frame, frame_due, is_cut, is_new, is_closed, is_post_due, is_negotiating, is_sending}
use Rattle.sim_adapter.specs.declared.view.EndView.{EndView}
use Rattle.sim_adapter.specs.Plays.{learned, AreMet}
use Rattle.file_messages.specs.declared.kind.Channel.{Channel}
use Rattle.file_messages.specs.declared.kind.CopyKind.{CopyKind}
use Rattle.file_pasts.specs.ClientPast.{ClientEvent}
use Rattle.file_pasts.specs.ServerDue.{ServerEvent}
use Rattle.file_server.specs.declared.server.FileServer.{FileServer}
use Rattle.copy_ends.specs.declared.client_machine.ClientMachine.{ClientMachine}
use Rattle.end_shares.specs.declared.share.Share.{Share}
use Rattle.end_shares.specs.declared.share.Share.TheVariants as shares
use Rattle.end_shares.specs.Turns.{IsCutAsTold, IsIdle}
use Rattle.end_shares.specs.Clients.{ClientGoesOn}
use Rattle.end_shares.specs.Servers.{ServerGoesOn}
use Rattle.end_shares.specs.Shares.{ComesTo, HasCutInPlace, rests}
use Rattle.link_ends.specs.Ends.{view_of, past_of}
use Rattle.end_rounds.specs.declared.end_pair.EndPair.{EndPair}
use Rattle.end_rounds.specs.Rounds.{IsThrough, ClientHasRun, ServerHasRun, AreLinked}

-- ---- an end that is cut

idle_by : (cut : Bool) (n : ℕ) (new closed post opening sending : Bool) (first later : List ℕ) → cut ≡ true
    → cond cut due.Idle (cond new (due.Post n) (cond closed due.Close (cond post (due.Post 1) (cond opening (due.Emit first) (cond sending (due.Emit later) due.Idle))))) ≡ due.Idle
idle_by true n new closed post opening sending first later e = refl
idle_by false n new closed post opening sending first later e = absurd (let b : ⊥ = cc in b)

cut_rests : (side : EndId) (limits : Limits) (past : List Event) → is_cut past ≡ true → next_event side limits past ≡ due.Idle
unfolding next_event
cut_rests side limits past cut =
    idle_by (is_cut past) limits.credits (is_new past) (is_closed side limits past) (is_post_due past) (is_negotiating side past) (is_sending side limits past)
    (negotiation_frame side limits past) (frame_due side limits past) cut

cut_is_idle : (v : EndView) → is_cut v.past ≡ true → IsIdle v
cut_is_idle v cut = cut_rests v.side _ v.past cut

not_both : (b : Bool) → b ≡ true → b ≡ false → ⊥
not_both b is isnt = cc

cuts_it : (left : Option ℕ) (v : EndView) → HasCutInPlace left v → is_cut v.past ≡ true
cuts_it left v h = ap is_cut h.is

-- ---- what a meeting leaves of an end's share

-- what is left to do at an end that comes to this, where nothing that is due is left once it rests
through : (share : Share) (left : Option ℕ) (Due : Type 0) (v w : EndView) → (rests share ≡ true → Due) → ComesTo share left v w
    → (length w.past ≡ length v.past + 64) ⊎ (IsThrough v w × (is_cut w.past ≡ false → Due))
through shares.Full left Due v w due h = inl h
through shares.Rests left Due v w due h = inr (record { idle = h.idle; taken = λ uncut. h.taken }, λ uncut. due refl)
through shares.IsCut left Due v w due h =
    inr (record { idle = cut_is_idle w h; taken = λ uncut. absurd (not_both (is_cut w.past) h uncut) }, λ uncut. absurd (not_both (is_cut w.past) h uncut))
through shares.Cuts left Due v w due h =
    let cut : is_cut w.past ≡ true = cuts_it left w h in
    inr (record { idle = cut_is_idle w cut; taken = λ uncut. absurd (not_both (is_cut w.past) cut uncut) }, λ uncut. absurd (not_both (is_cut w.past) cut uncut))

-- how much it saw plays no part
still_through : (v w : EndView) (n : ℕ) → IsThrough v w → IsThrough v (learned w n)
still_through v w n h = record { idle = h.idle; taken = h.taken }

still : (Due : Type 0) (v w : EndView) (n : ℕ) → (length w.past ≡ length v.past + 64) ⊎ (IsThrough v w × (is_cut w.past ≡ false → Due))
    → (length (learned w n).past ≡ length v.past + 64) ⊎ (IsThrough v (learned w n) × (is_cut (learned w n).past ≡ false → Due))
still Due v w n (inl all) = inl all
still Due v w n (inr rest) = inr (still_through v w n rest.0, rest.1)

client_learned : (kind : CopyKind) (channel : Channel) (pages : ℕ) (past : List ClientEvent) (share : Share) (left : Option ℕ) (m : ClientMachine) (v w : EndView) (n : ℕ)
    → ClientGoesOn kind channel pages past 64 (rests share) m w → ComesTo share left v w → ClientHasRun kind channel pages past m v (learned w n)
client_learned kind channel pages past share left m v w n h comes = record {
  later = h.later;
  talked = h.talked;
  few = h.few;
  stands = record { came = h.stands.came; sent = h.stands.sent; heard = h.stands.heard };
  share = still _ v w n (through share left _ v w h.at_rest comes);
}

pub client_met : (kind : CopyKind) (channel : Channel) (pages : ℕ) (past : List ClientEvent) (share : Share) (left : Option ℕ) (m : ClientMachine) (v w u : EndView) (n : ℕ)
    → u ≡ learned w n → ClientGoesOn kind channel pages past 64 (rests share) m w → ComesTo share left v w → ClientHasRun kind channel pages past m v u
client_met kind channel pages past share left m v w u n is h comes =
    subst (λ (x : EndView). ClientHasRun kind channel pages past m v x) (sym is) (client_learned kind channel pages past share left m v w n h comes)

server_learned : (kind : CopyKind) (past : List ServerEvent) (share : Share) (left : Option ℕ) (m : FileServer) (v w : EndView) (n : ℕ)
    → ServerGoesOn kind past (rests share) m w → ComesTo share left v w → ServerHasRun kind past m v (learned w n)
server_learned kind past share left m v w n h comes = record {
  later = h.later;
  talked = h.talked;
  stands = record { came = h.stands.came; sent = h.stands.sent; heard = h.stands.heard; follows = h.stands.follows };
  share = still _ v w n (through share left _ v w h.at_rest comes);
}

pub server_met : (kind : CopyKind) (past : List ServerEvent) (share : Share) (left : Option ℕ) (m : FileServer) (v w u : EndView) (n : ℕ)
    → u ≡ learned w n → ServerGoesOn kind past (rests share) m w → ComesTo share left v w → ServerHasRun kind past m v u
server_met kind past share left m v w u n is h comes =
    subst (λ (x : EndView). ServerHasRun kind past m v x) (sym is) (server_learned kind past share left m v w n h comes)

-- ---- who has cut the link

-- neither is cut, and neither was told so
abbrev pub AreWhole : Bool → Bool → Bool → Bool → Type 0
AreWhole client_told server_told client_cut server_cut = ((client_cut ≡ false) × (client_told ≡ false)) × ((server_cut ≡ false) × (server_told ≡ false))

whole_by : (ct st cc sc : Bool) → ct ≡ cc → st ≡ sc → (ct ≡ true → (sc ≡ true) × (st ≡ false)) → (st ≡ true → (cc ≡ true) × (ct ≡ false)) → AreWhole ct st cc sc
whole_by true st cc sc c s client server = absurd (not_both st (s ∙ (client refl).0) (client refl).1)
whole_by false true cc sc c s client server = absurd (not_both false (c ∙ (server refl).0) refl)
whole_by false false cc sc c s client server = ((sym c, refl), (sym s, refl))

-- As the server cuts nothing by itself, an end is cut only where the client has cut the link.
pub both_whole : (v w : EndView) → IsCutAsTold v → IsCutAsTold w → AreMet v w → AreWhole v.told_cut w.told_cut (is_cut v.past) (is_cut w.past)
both_whole v w c s met = whole_by v.told_cut w.told_cut (is_cut v.past) (is_cut w.past) c s met.client_cut met.server_cut

learned_told : (v w : EndView) (n : ℕ) → w ≡ learned v n → IsCutAsTold v → IsCutAsTold w
learned_told v w n is told = subst (λ (x : EndView). IsCutAsTold x) (sym is) told

in_place : (left : Option ℕ) (v w : EndView) (n : ℕ) → w ≡ learned v n → HasCutInPlace left v → HasCutInPlace left w
in_place left v w n is h = subst (λ (x : EndView). HasCutInPlace left x) (sym is) (record { before = h.before; is = h.is; next = h.next; none = h.none })

-- the client's share, its end after it and after the meeting, and the server's
pub linked : (share : Share) (left : Option ℕ) (u v w : EndView) (x y : EndView) (n k : ℕ) → ComesTo share left u v
    → ((share ≡ shares.Cuts → ⊥) → IsCutAsTold v) → IsCutAsTold x → w ≡ learned v n → y ≡ learned x k → AreMet w y
    → AreWhole w.told_cut y.told_cut (is_cut w.past) (is_cut y.past) ⊎ HasCutInPlace left w
linked shares.Full left u v w x y n k comes told server wis yis met = inl (both_whole w y (learned_told v w n wis (told (λ e. cc))) (learned_told x y k yis server) met)
linked shares.Rests left u v w x y n k comes told server wis yis met = inl (both_whole w y (learned_told v w n wis (told (λ e. cc))) (learned_told x y k yis server) met)
linked shares.IsCut left u v w x y n k comes told server wis yis met = inl (both_whole w y (learned_told v w n wis (told (λ e. cc))) (learned_told x y k yis server) met)
linked shares.Cuts left u v w x y n k comes told server wis yis met = inr (in_place left v w n wis comes)

pub as_linked : (left : Option ℕ) (p : EndPair)
    → AreWhole (view_of p.client).told_cut (view_of p.server).told_cut (is_cut (past_of p.client)) (is_cut (past_of p.server)) ⊎ HasCutInPlace left (view_of p.client)
    → AreLinked left p
as_linked left p (inl whole) = inl (record { client_uncut = whole.0.0; server_uncut = whole.1.0; client_untold = whole.0.1; server_untold = whole.1.1 })
as_linked left p (inr cut) = inr cut
