-- The first frame of an end that follows its rules, and the first that it took.
use Rattle.std.proofs.Common.{◌≡◌, inl, inr, ℕ, ◌≤◌, ◌<◌, Bool, true, false, cond, List, [], ◌∷◌, ◌++◌, length, Option, Some, None, Ok, refl, ap, subst, sym, ◌∙◌, append-nil, append_assoc, lit≤, arith}
use mathlib.Core.List.{IsPrefix}
use Rattle.smbd_base.specs.declared.end_id.EndId.{EndId}
use Rattle.smbd_base.specs.declared.end_id.EndId.TheVariants.{Client, Server}
use Rattle.smbd_base.specs.declared.event.Event.{Event}
use Rattle.smbd_base.specs.declared.event.Event.TheVariants.{Post, Submit, Emit, Take, Cut}
use Rattle.smbd_base.specs.declared.agreed.Agreed.{Agreed}
use Rattle.smbd_base.specs.declared.faults.NegotiateFault.{NegotiateFault}
use Rattle.smbd_base.specs.Limits.{Limits, IsLawful}
use Rattle.smbd_base.specs.Counts.{receives_grantable, is_silent, is_unheard, peer_of}
use Rattle.smbd_base.specs.Joint.{emitted_frames, taken_frames}
use Rattle.smbd_base.specs.NegotiateMessages.{Request, Response, request_bytes, request_fields, request_fault, request_of_limits, response_bytes, response_fields, response_fault, answer_to, refusing_response, agreed_with_client, agreed_with_server, fields_or_fault}
use Rattle.smbd_base.specs.History.{negotiation_fault, negotiation_frame, peer_negotiation, settled_by, is_negotiating, is_version_refused, IsLegal}
use Rattle.smbd_base.proofs.BalanceLemmas.{balanced}
use Rattle.smbd_base.proofs.Inversion.{Emits, emits, both, from_not, sending_parts}
use Rattle.smbd_base.proofs.NegotiationLaws.{request_fields-request_bytes, response_fields-response_bytes, read_request_of-request_bytes, read_response_of-response_bytes, request_of_limits-fits, lawful_request_of_limits, lawful_answer, fits-answer}
use Rattle.smbd_base.proofs.Counting.{is_empty, silent_is, unheard_is}
use Rattle.smbd_laws.proofs.Refusing.{no_version_refused}

-- ---- the first frame that was taken

empty_is : {A : Type 0} (xs : List A) → is_empty xs ≡ true → xs ≡ []
empty_is [] e = refl
empty_is (x ∷ xs) e = absurd cc

-- a front has the first one of the whole
pub front_first : {A : Type 0} (xs ys rest : List A) (x : A) (k : IsPrefix xs ys) → xs ≡ x ∷ rest → ys ≡ x ∷ (rest ++ k.0)
front_first xs ys rest x k e = sym k.1 ∙ ap (λ (zs : List _). zs ++ k.0) e

opening_by : (past : List Event) (f : List ℕ) (unheard : Bool) → is_unheard past ≡ unheard
    → (is_unheard past ≡ false → (rest : List (List ℕ)) × (taken_frames past ≡ peer_negotiation past ∷ rest))
    → (rest : List (List ℕ)) × (taken_frames past ++ f ∷ [] ≡ cond unheard f (peer_negotiation past) ∷ rest)
opening_by past f true is was =
    let none : taken_frames past ≡ [] = empty_is (taken_frames past) (sym (unheard_is past) ∙ is) in
    ([], ap (λ (fs : List (List ℕ)). fs ++ f ∷ []) none)
opening_by past f false is was = let h = was is in (h.0 ++ f ∷ [], ap (λ (fs : List (List ℕ)). fs ++ f ∷ []) h.1)

-- an end that has heard took its peer's opening frame first
pub heard_first : (past : List Event) → is_unheard past ≡ false → (rest : List (List ℕ)) × (taken_frames past ≡ peer_negotiation past ∷ rest)
heard_first [] heard = absurd cc
heard_first (Post n ∷ past) heard = heard_first past heard
heard_first (Submit m ∷ past) heard = heard_first past heard
heard_first (Emit f ∷ past) heard = heard_first past heard
heard_first (Take f ∷ past) heard = opening_by past f (is_unheard past) refl (heard_first past)
heard_first (Cut ∷ past) heard = heard_first past heard

-- ---- the first frame that was sent

-- this was the first frame: it was sent after a past in which the first of these frames were taken
pub record IsFirst (side : EndId) (limits : Limits) (taken : List (List ℕ)) (frame : List ℕ) : Type 0 where
  pub before : List Event
  pub legal : IsLegal side limits before
  pub emits : Emits side limits before frame
  pub opening : is_negotiating side before ≡ true
  pub silent : is_silent before ≡ true
  pub is : negotiation_frame side limits before ≡ frame
  pub front : IsPrefix (taken_frames before) taken

first_now : (side : EndId) (limits : Limits) (past : List Event) (f : List ℕ) → IsLegal side limits past → Emits side limits past f → is_silent past ≡ true
    → IsFirst side limits (taken_frames past) f
first_now side limits past f legal e silent =
    elim e.chosen.why as (λ _. IsFirst side limits (taken_frames past) f) [
      | inl first ↦ record { before = past; legal = legal; emits = e; opening = first.0; silent = silent; is = first.1; front = ([], append-nil (taken_frames past)) }
      | inr later ↦
          let spoken = (sending_parts side limits past e.going.closed later.1).spoken in
          absurd (let b : ⊥ = cc in b)
    ]

first_emit : (side : EndId) (limits : Limits) (past : List Event) (g f : List ℕ) (rest sent : List (List ℕ)) → emitted_frames past ≡ sent → sent ++ g ∷ [] ≡ f ∷ rest
    → IsLegal side limits (Emit g ∷ past) → ((later : List (List ℕ)) → emitted_frames past ≡ f ∷ later → IsFirst side limits (taken_frames past) f) → IsFirst side limits (taken_frames past) f
first_emit side limits past g f rest [] none e legal was =
    let same : g ≡ f = cc in
    let silent : is_silent past ≡ true = silent_is past ∙ ap (λ (fs : List (List ℕ)). is_empty fs) none in
    subst (λ (h : List ℕ). IsFirst side limits (taken_frames past) h) same (first_now side limits past g legal.1 (emits side limits past g legal.0) silent)
first_emit side limits past g f rest (h ∷ sent) some e legal was =
    let same : h ≡ f = cc in
    was sent (some ∙ ap (λ (k : List ℕ). k ∷ sent) same)

first_later : (side : EndId) (limits : Limits) (taken : List (List ℕ)) (t f : List ℕ) → IsFirst side limits taken f → IsFirst side limits (taken ++ t ∷ []) f
first_later side limits taken t f w = record {
  before = w.before;
  legal = w.legal;
  emits = w.emits;
  opening = w.opening;
  silent = w.silent;
  is = w.is;
  front = (w.front.0 ++ t ∷ [], sym (append_assoc (taken_frames w.before) w.front.0 (t ∷ [])) ∙ ap (λ (fs : List (List ℕ)). fs ++ t ∷ []) w.front.1);
}

-- an end that follows its rules opened with its first frame
pub first_sent : (side : EndId) (limits : Limits) (past : List Event) (f : List ℕ) (rest : List (List ℕ)) → IsLegal side limits past → emitted_frames past ≡ f ∷ rest
    → IsFirst side limits (taken_frames past) f
first_sent side limits [] f rest legal e = absurd cc
first_sent side limits (Post n ∷ past) f rest legal e = first_sent side limits past f rest legal.1 e
first_sent side limits (Submit m ∷ past) f rest legal e = first_sent side limits past f rest legal.1 e
first_sent side limits (Emit g ∷ past) f rest legal e =
    first_emit side limits past g f rest (emitted_frames past) refl e legal (λ later is. first_sent side limits past f later legal.1 is)
first_sent side limits (Take t ∷ past) f rest legal e = first_later side limits (taken_frames past) t f (first_sent side limits past f rest legal.1 e)
first_sent side limits (Cut ∷ past) f rest legal e = first_sent side limits past f rest legal.1 e

-- ---- what it tells the peer

-- what an end has settled with a peer of these limits: no longer frames than that peer receives, nor longer messages than it gathers
pub record IsWithinPeer (peer : Limits) (agreed : Agreed) : Type 0 where
  pub frames : agreed.send_size ≤ peer.receive_size
  pub messages : agreed.message_max ≤ peer.fragmented_size

grantable_small : (side : EndId) (limits : Limits) (past : List Event) (f : List ℕ) → IsLawful limits → IsLegal side limits past → Emits side limits past f
    → receives_grantable side past < 65536
grantable_small side limits past f lawful legal e =
    let b = balanced side limits past lawful legal e.going.opened in
    omega (arith, b.posted, b.taken, lawful.credits.1)

told_client : (own other : Limits) → IsLawful own → IsWithinPeer own (agreed_with_client other (request_fields (request_bytes (request_of_limits own))))
told_client own other lawful =
    subst (λ (r : Request). IsWithinPeer own (agreed_with_client other r)) (sym (request_fields-request_bytes (request_of_limits own) (request_of_limits-fits own lawful)))
    (record { frames = omega arith; messages = omega arith })

told_answer : (own other : Limits) (request : Request) (grantable : ℕ) → IsLawful own → grantable < 65536
    → IsWithinPeer own (agreed_with_server other (response_fields (response_bytes (answer_to request own grantable))))
told_answer own other request grantable lawful small =
    subst (λ (r : Response). IsWithinPeer own (agreed_with_server other r))
    (sym (response_fields-response_bytes (answer_to request own grantable) (fits-answer own request grantable lawful small)))
    (record { frames = omega arith; messages = omega arith })

told_refusal : (own other : Limits) → IsWithinPeer own (agreed_with_server other (response_fields (response_bytes refusing_response)))
told_refusal own other = record { frames = omega arith; messages = omega arith }

told_server : (own other : Limits) (past : List Event) (version : Bool) → IsLawful own → receives_grantable Server past < 65536
    → IsWithinPeer own (agreed_with_server other (response_fields (cond version (response_bytes refusing_response) (response_bytes (answer_to (request_fields (peer_negotiation past)) own (receives_grantable Server past))))))
told_server own other past true lawful small = told_refusal own other
told_server own other past false lawful small = told_answer own other (request_fields (peer_negotiation past)) (receives_grantable Server past) lawful small

-- what the peer settles from an end's first frame is within the end's limits
pub told : (side : EndId) (own other : Limits) (taken : List (List ℕ)) (f : List ℕ) → IsLawful own → IsFirst side own taken f
    → IsWithinPeer own (settled_by (peer_of side) other f)
told Client own other taken f lawful w =
    subst (λ (g : List ℕ). IsWithinPeer own (agreed_with_client other (request_fields g))) w.is (told_client own other lawful)
told Server own other taken f lawful w =
    subst (λ (g : List ℕ). IsWithinPeer own (agreed_with_server other (response_fields g))) w.is
    (told_server own other w.before (is_version_refused Server own w.before) lawful (grantable_small Server own w.before f lawful w.legal w.emits))

-- ---- the peer does not refuse it

-- a short negotiation message without a fault
pub record IsWelcome (side : EndId) (limits : Limits) (frame : List ℕ) : Type 0 where
  pub short : length frame ≤ 32
  pub sound : negotiation_fault side limits frame ≡ None

sound_by : {A : Type 0} (o : Option NegotiateFault) (fields read : A) → fields_or_fault o fields ≡ Ok read → o ≡ None
sound_by None fields read e = refl
sound_by (Some fault) fields read e = absurd cc

-- a server takes the request of a client with lawful limits
pub request_sound : (limits : Limits) → IsLawful limits → request_fault (request_bytes (request_of_limits limits)) ≡ None
request_sound limits lawful =
    let bytes = request_bytes (request_of_limits limits) in
    sound_by (request_fault bytes) (request_fields bytes) (request_of_limits limits)
    (read_request_of-request_bytes (request_of_limits limits) (request_of_limits-fits limits lawful) (lawful_request_of_limits limits lawful))

-- a client takes the response to its request
response_sound : (own other : Limits) (grantable : ℕ) → IsLawful own → IsLawful other → 1 ≤ grantable → grantable < 65536
    → response_fault own (response_bytes (answer_to (request_of_limits own) other grantable)) ≡ None
response_sound own other grantable lawful peer some small =
    let answer = answer_to (request_of_limits own) other grantable in
    sound_by (response_fault own (response_bytes answer)) (response_fields (response_bytes answer)) answer
    (read_response_of-response_bytes own answer (fits-answer other (request_of_limits own) grantable peer small) (lawful_answer own other grantable lawful peer some))

welcome_response : (own other : Limits) (past : List Event) (version : Bool) → IsLawful own → IsLawful other → version ≡ false
    → peer_negotiation past ≡ request_bytes (request_of_limits own) → 1 ≤ receives_grantable Server past → receives_grantable Server past < 65536
    → IsWelcome Client own (cond version (response_bytes refusing_response) (response_bytes (answer_to (request_fields (peer_negotiation past)) other (receives_grantable Server past))))
welcome_response own other past true lawful peer none heard some small = absurd cc
welcome_response own other past false lawful peer none heard some small =
    let asked : request_fields (peer_negotiation past) ≡ request_of_limits own =
    ap (λ (g : List ℕ). request_fields g) heard ∙ request_fields-request_bytes (request_of_limits own) (request_of_limits-fits own lawful) in
    subst (λ (r : Request). IsWelcome Client own (response_bytes (answer_to r other (receives_grantable Server past)))) (sym asked)
    (record { short = lit≤ tt; sound = response_sound own other (receives_grantable Server past) lawful peer some small })

-- a server that took a client's request answers so that the client takes it
welcome_server : (own other : Limits) (taken : List (List ℕ)) (f : List ℕ) → IsLawful own → IsLawful other → (w : IsFirst Server other taken f)
    → peer_negotiation w.before ≡ request_bytes (request_of_limits own) → IsWelcome Client own f
welcome_server own other taken f lawful peer w heard =
    let b = balanced Server other w.before peer w.legal w.emits.going.opened in
    let all = b.reposted w.emits.going.cut w.emits.going.closed in
    let one = b.silent_granted w.silent in
    let full = rw w.emits.post_due at all in
    let sound : request_fault (peer_negotiation w.before) ≡ None = rw heard (request_sound own lawful) in
    subst (λ (g : List ℕ). IsWelcome Client own g) w.is
    (welcome_response own other w.before (is_version_refused Server other w.before) lawful peer
    (no_version_refused Server other w.before (λ _ _. sound)) heard (omega (arith, full, one, peer.credits.0)) (grantable_small Server other w.before f peer w.legal w.emits))

welcome_client : (own other : Limits) → IsLawful other → IsWelcome Server own (request_bytes (request_of_limits other))
welcome_client own other peer = record { short = lit≤ tt; sound = request_sound other peer }

-- an end takes the first frame of a peer that took what it asked first
pub welcome : (side : EndId) (own other : Limits) (taken : List (List ℕ)) (f : List ℕ) → IsLawful own → IsLawful other → (w : IsFirst (peer_of side) other taken f)
    → (side ≡ Client → is_unheard w.before ≡ false → peer_negotiation w.before ≡ request_bytes (request_of_limits own)) → IsWelcome side own f
welcome Client own other taken f lawful peer w heard =
    welcome_server own other taken f lawful peer w (heard refl (from_not (is_unheard w.before) (both (is_silent w.before) _ w.opening).1))
welcome Server own other taken f lawful peer w heard = subst (λ (g : List ℕ). IsWelcome Server own g) w.is (welcome_client own other peer)
