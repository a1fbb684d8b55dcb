-- The line of each event of two joint histories can be written and read.
use Rattle.std.proofs.Common.{◌≡◌, inl, inr, ℕ, ◌+◌, ◌^◌, ◌<◌, ◌≤◌, nat_lt, Bool, true, false, cond, Result, Err, is_ok, List, [], ◌∷◌, ◌++◌, length, refl, sym, subst, lit≤, arith}
use mathlib.Core.List.{IsPrefix}
use Rattle.std.proofs.lemmas.Bool.Decides.{nat_tests}
use Rattle.std.proofs.lemmas.List.{length-append}
use Rattle.smbd_base.specs.declared.end_id.EndId.{EndId}
use Rattle.smbd_base.specs.declared.end_id.EndId.TheVariants.{Client, Server}
use Rattle.smbd_base.specs.declared.event.Event.{Event}
use Rattle.smbd_base.specs.declared.event.Event.TheVariants.{Post, Submit, Emit, Take, Cut}
use Rattle.smbd_base.specs.declared.faults.FrameFault.{FrameFault}
use Rattle.smbd_base.specs.declared.limits.TheConstants.{MOST_CREDITS, MOST_FRAME_SIZE}
use Rattle.smbd_base.specs.Limits.{Limits, IsLawful}
use Rattle.smbd_base.specs.Counts.{receives_grantable}
use Rattle.smbd_base.specs.DataFrame.{DataFrame, data_frame_of}
use Rattle.smbd_base.specs.Joint.{AreLinked, emitted_frames, taken_frames}
use Rattle.smbd_base.specs.NegotiateMessages.{request_fields, response_bytes, answer_to, refusing_response}
use Rattle.smbd_base.specs.History.{messages_submitted, negotiation_frame, peer_negotiation, is_version_refused, IsLegal}
use Rattle.smbd_base.proofs.Inversion.{posts}
use Rattle.smbd_laws.proofs.Fitting.{AreShort}
use Rattle.smbd_laws.proofs.Joining.{AreSome}
use Rattle.smbd_laws.proofs.Opening.{first_sent}
use Rattle.smbd_laws.proofs.Sending.{AreSound, later_frames, speaks}
use Rattle.smbd_laws.proofs.Settling.{SettlesWithin, settles_within}
use Rattle.smbd_laws.proofs.Submitting.{submitted_some, submitted_short}
use Rattle.event_log.specs.Lines.{IsBetween, IsEnd}
use Rattle.run_log.specs.RunLines.{side_of, AreTellable}

-- ---- the frames

-- the frame fits a line
abbrev pub FitsLine : List ℕ → Type 0
FitsLine frame = IsBetween 1 MOST_FRAME_SIZE (length frame)

abbrev pub FitLines : List (List ℕ) → Type 0
FitLines [] = Unit {0}
FitLines (f ∷ frames) = FitsLine f × FitLines frames

fit_front : (front more : List (List ℕ)) → FitLines (front ++ more) → FitLines front
fit_front [] more fit = tt
fit_front (f ∷ front) more fit = (fit.0, fit_front front more fit.1)

fit_last : (front : List (List ℕ)) (f : List ℕ) → FitLines (front ++ f ∷ []) → FitsLine f
fit_last [] f fit = fit.0
fit_last (g ∷ front) f fit = fit_last front f fit.1

long_by : (n : ℕ) (short : Bool) (fault : FrameFault) (o : Result DataFrame FrameFault) → nat_lt n 20 ≡ short
    → is_ok (cond {A = Result DataFrame FrameFault} short (Err fault) o) ≡ true → 20 ≤ n
long_by n true fault o is read = absurd cc
long_by n false fault o is read = grind (arith, nat_tests)

-- a data transfer message that can be read has its header
long_enough : (frame : List ℕ) → is_ok (data_frame_of frame) ≡ true → 20 ≤ length frame
unfolding data_frame_of
long_enough frame read = long_by (length frame) (nat_lt (length frame) 20) _ _ refl read

sound_fit : (longest : ℕ) (frames : List (List ℕ)) → longest ≤ MOST_FRAME_SIZE → AreSound longest frames → FitLines frames
sound_fit longest [] few sound = tt
sound_fit longest (f ∷ frames) few sound =
    (record { low = omega (arith, long_enough f sound.0.read); high = omega (arith, sound.0.short) }, sound_fit longest frames few sound.1)

response_fits : (version : Bool) (limits : Limits) (past : List Event)
    → FitsLine (cond version (response_bytes refusing_response) (response_bytes (answer_to (request_fields (peer_negotiation past)) limits (receives_grantable Server past))))
response_fits true limits past = record { low = lit≤ tt; high = lit≤ tt }
response_fits false limits past = record { low = lit≤ tt; high = lit≤ tt }

opening_fits : (end : EndId) (limits : Limits) (past : List Event) → FitsLine (negotiation_frame end limits past)
opening_fits Client limits past = record { low = lit≤ tt; high = lit≤ tt }
opening_fits Server limits past = response_fits (is_version_refused Server limits past) limits past

-- each frame that an end sends
sent_fit : (end : EndId) (limits : Limits) (past : List Event) → IsLawful limits → IsLegal end limits past → (peer : Limits) → SettlesWithin peer end limits past
    → FitLines (emitted_frames past)
sent_fit end limits past lawful legal peer s = by_frames (emitted_frames past) refl where
  by_frames : (frames : List (List ℕ)) → emitted_frames past ≡ frames → FitLines frames
  by_frames [] is = tt
  by_frames (f ∷ later) is =
      let first = first_sent end limits past f later legal is in
      let sound = (speaks end limits past s.agreed lawful legal s.settles).sound in (
        subst (λ (g : List ℕ). FitsLine g) first.is (opening_fits end limits first.before),
        sound_fit s.agreed.send_size later s.settles.lawful.send_size.1 (subst (λ (fs : List (List ℕ)). AreSound s.agreed.send_size (later_frames fs)) is sound),
      )

-- each frame that its peer takes
taken_fit : (taken sent : List (List ℕ)) → IsPrefix taken sent → FitLines sent → FitLines taken
taken_fit taken sent front fit = fit_front taken front.0 (subst (λ (fs : List (List ℕ)). FitLines fs) (sym front.1) fit)

-- ---- the messages

some_last : (messages : List (List ℕ)) (m : List ℕ) → AreSome (messages ++ m ∷ []) → AreSome messages × (0 < length m)
some_last [] m s = (tt, s.0)
some_last (first ∷ messages) m s = let h = some_last messages m s.1 in ((s.0, h.0), h.1)

short_last : (max : ℕ) (messages : List (List ℕ)) (m : List ℕ) → AreShort max (messages ++ m ∷ []) → AreShort max messages × (length m ≤ max)
short_last max [] m s = (tt, s.0)
short_last max (first ∷ messages) m s = let h = short_last max messages m s.1 in ((s.0, h.0), h.1)

-- ---- a past

is_end : (end : EndId) → IsEnd (side_of end)
is_end Client = tt
is_end Server = tt

-- the frames and the messages of a past fit their lines, and the frames that were taken can be numbered
record HasRanges (max : ℕ) (past : List Event) : Type 0 where
  sent : FitLines (emitted_frames past)
  taken : FitLines (taken_frames past)
  some : AreSome (messages_submitted past)
  short : AreShort max (messages_submitted past)
  few : length (taken_frames past) < 2 ^ 62

post_between : (end : EndId) (limits : Limits) (past : List Event) (n : ℕ) → IsLawful limits → IsLegal end limits (Post n ∷ past) → IsBetween 1 MOST_CREDITS n
post_between end limits past n lawful legal =
    elim (posts end limits past n legal.0).1 as (λ _. IsBetween 1 MOST_CREDITS n) [
      | inl opening ↦ record { low = omega (arith, opening.1, lawful.credits.0); high = omega (arith, opening.1, lawful.credits.1) }
      | inr later ↦ record { low = omega (arith, later.3); high = omega (arith, later.3) }
    ]

tellable : (end : EndId) (limits : Limits) (max : ℕ) (past : List Event) → IsLawful limits → IsLegal end limits past → max ≤ 1048576 → HasRanges max past → AreTellable end past
tellable end limits max [] lawful legal most h = tt
tellable end limits max (Post n ∷ past) lawful legal most h = (
  (is_end end, post_between end limits past n lawful legal),
  tellable end limits max past lawful legal.1 most
      (record { sent = h.sent; taken = h.taken; some = h.some; short = h.short; few = h.few }),
)
tellable end limits max (Submit m ∷ past) lawful legal most h =
    let some = some_last (messages_submitted past) m h.some in
    let short = short_last max (messages_submitted past) m h.short in (
      (is_end end, record { low = omega (arith, some.1); high = omega (arith, short.1) }),
      tellable end limits max past lawful legal.1 most (record { sent = h.sent; taken = h.taken; some = some.0; short = short.0; few = h.few }),
    )
tellable end limits max (Emit f ∷ past) lawful legal most h = (
  (is_end end, fit_last (emitted_frames past) f h.sent),
  tellable end limits max past lawful legal.1 most
      (record { sent = fit_front (emitted_frames past) (f ∷ []) h.sent; taken = h.taken; some = h.some; short = h.short; few = h.few }),
)
tellable end limits max (Take f ∷ past) lawful legal most h =
    let long : length (taken_frames past ++ f ∷ []) ≡ length (taken_frames past) + 1 = length-append (taken_frames past) (f ∷ []) in (
      (is_end end, record { low = omega arith; high = omega (arith, long, h.few) }, fit_last (taken_frames past) f h.taken),
      tellable end limits max past lawful legal.1 most
          (record { sent = h.sent; taken = fit_front (taken_frames past) (f ∷ []) h.taken; some = h.some; short = h.short; few = omega (arith, long, h.few) }),
    )
tellable end limits max (Cut ∷ past) lawful legal most h =
    (is_end end, tellable end limits max past lawful legal.1 most (record { sent = h.sent; taken = h.taken; some = h.some; short = h.short; few = h.few }))

pub taken_few : (past : List Event) → length (taken_frames past) ≤ length past
taken_few [] = omega arith
taken_few (Post n ∷ past) = omega (arith, taken_few past)
taken_few (Submit m ∷ past) = omega (arith, taken_few past)
taken_few (Emit f ∷ past) = omega (arith, taken_few past)
taken_few (Take f ∷ past) = omega (arith, taken_few past, length-append (taken_frames past) (f ∷ []))
taken_few (Cut ∷ past) = omega (arith, taken_few past)

-- ---- two joint histories

pub client_tellable : (client_limits server_limits : Limits) (client server : List Event) → IsLawful client_limits → IsLawful server_limits
    → AreLinked client_limits server_limits client server → length client < 2 ^ 62 → AreTellable Client client
client_tellable client_limits server_limits client server lawful lawful' h few =
    let own = settles_within Server server_limits client_limits server client lawful' lawful h.server_legal h.to_client in
    let peer = settles_within Client client_limits server_limits client server lawful lawful' h.client_legal h.to_server in
    tellable Client client_limits own.agreed.message_max client lawful h.client_legal (omega (arith, own.within.messages, lawful'.fragmented_size.1)) (record {
      sent = sent_fit Client client_limits client lawful h.client_legal server_limits own;
      taken = taken_fit (taken_frames client) (emitted_frames server) h.to_client (sent_fit Server server_limits server lawful' h.server_legal client_limits peer);
      some = submitted_some Client client_limits client h.client_legal;
      short = submitted_short Client client_limits client own.agreed h.client_legal own.settles;
      few = omega (arith, taken_few client);
    })

pub server_tellable : (client_limits server_limits : Limits) (client server : List Event) → IsLawful client_limits → IsLawful server_limits
    → AreLinked client_limits server_limits client server → length server < 2 ^ 62 → AreTellable Server server
server_tellable client_limits server_limits client server lawful lawful' h few =
    let peer = settles_within Server server_limits client_limits server client lawful' lawful h.server_legal h.to_client in
    let own = settles_within Client client_limits server_limits client server lawful lawful' h.client_legal h.to_server in
    tellable Server server_limits own.agreed.message_max server lawful' h.server_legal (omega (arith, own.within.messages, lawful.fragmented_size.1)) (record {
      sent = sent_fit Server server_limits server lawful' h.server_legal client_limits own;
      taken = taken_fit (taken_frames server) (emitted_frames client) h.to_server (sent_fit Client client_limits client lawful h.client_legal server_limits peer);
      some = submitted_some Server server_limits server h.server_legal;
      short = submitted_short Server server_limits server own.agreed h.server_legal own.settles;
      few = omega (arith, taken_few server);
    })
