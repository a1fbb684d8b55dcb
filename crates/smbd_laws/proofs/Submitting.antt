-- What was submitted at an end that follows its rules, and its pieces.
use Rattle.std.proofs.Common.{◌≡◌, ℕ, ◌-◌, ◌≤◌, ◌<◌, ◌==◌, nat_lt, Bool, true, false, not, cond, List, [], ◌∷◌, ◌++◌, length, None, Some, refl, ap, ◌∙◌, append-nil, arith}
use Rattle.std.specs.List.{flat_map, All}
use Rattle.std.proofs.lemmas.Bool.Decides.{nat_tests}
use Rattle.std.proofs.lemmas.List.Concat.{flat_map-append}
use Rattle.std.proofs.lemmas.List.Elements.{All-nil, All-append}
use Rattle.smbd_base.specs.declared.end_id.EndId.{EndId}
use Rattle.smbd_base.specs.declared.event.Event.{Event}
use Rattle.smbd_base.specs.declared.event.Event.TheVariants.{Post, Submit, Emit, Take, Cut}
use Rattle.smbd_base.specs.declared.faults.SubmitFault.TheVariants as refusals
use Rattle.smbd_base.specs.Limits.{Limits}
use Rattle.smbd_base.specs.Pieces.{Piece, pieces_of}
use Rattle.smbd_base.specs.declared.agreed.Agreed.{Agreed}
use Rattle.smbd_base.specs.History.{messages_submitted, message_limit, settled, is_agreed, is_open, IsLegal}
use Rattle.smbd_laws.proofs.Fitting.{AreShort}
use Rattle.smbd_laws.proofs.Joining.{AreSome, IsPart, pieces_of-parts}
use Rattle.smbd_laws.proofs.Settling.{Settles, settles_before}

-- ---- a message

-- a message that may be submitted has a byte, and at most so many
pub record IsSubmittable (most : ℕ) (m : List ℕ) : Type 0 where
  pub some : 0 < length m
  pub short : length m ≤ most

submittable_by : (m : List ℕ) (limit : ℕ) (closed empty long : Bool) → (length m == 0) ≡ empty → nat_lt limit (length m) ≡ long
    → cond closed (Some refusals.Closed) (cond empty (Some refusals.Empty) (cond long (Some refusals.TooLong) None)) ≡ None → IsSubmittable limit m
submittable_by m limit true empty long e g refused = absurd cc
submittable_by m limit false true long e g refused = absurd cc
submittable_by m limit false false true e g refused = absurd cc
submittable_by m limit false false false e g refused = record { some = grind (arith, nat_tests); short = grind (arith, nat_tests) }

submittable : (side : EndId) (limits : Limits) (past : List Event) (m : List ℕ) → IsLegal side limits (Submit m ∷ past) → IsSubmittable (message_limit side limits past) m
submittable side limits past m legal =
    submittable_by m (message_limit side limits past) (not (is_open side limits past)) (length m == 0) (nat_lt (message_limit side limits past) (length m)) refl refl legal.0

limit_by : (agreed : Bool) (own settled_max : ℕ) → (agreed ≡ true → own ≡ settled_max) → 131072 ≤ settled_max → cond agreed own 131072 ≤ settled_max
limit_by true own settled_max is least = let same = is refl in omega arith
limit_by false own settled_max is least = least

-- no message that may be submitted is longer than what is settled at any time
limit_settled : (side : EndId) (limits : Limits) (past : List Event) (agreed : Agreed) → Settles side limits past agreed → message_limit side limits past ≤ agreed.message_max
limit_settled side limits past agreed s =
    limit_by (is_agreed side limits past) (settled side limits past).message_max agreed.message_max (λ a. ap (λ (x : Agreed). x.message_max) (s.is a)) s.lawful.message_max

-- ---- all messages

some_more : (messages : List (List ℕ)) (m : List ℕ) → AreSome messages → 0 < length m → AreSome (messages ++ m ∷ [])
some_more [] m s here = (here, tt)
some_more (first ∷ messages) m s here = (s.0, some_more messages m s.1 here)

-- no message that was submitted is empty
pub submitted_some : (side : EndId) (limits : Limits) (past : List Event) → IsLegal side limits past → AreSome (messages_submitted past)
submitted_some side limits [] legal = tt
submitted_some side limits (Post n ∷ past) legal = submitted_some side limits past legal.1
submitted_some side limits (Submit m ∷ past) legal =
    some_more (messages_submitted past) m (submitted_some side limits past legal.1) (submittable side limits past m legal).some
submitted_some side limits (Emit f ∷ past) legal = submitted_some side limits past legal.1
submitted_some side limits (Take f ∷ past) legal = submitted_some side limits past legal.1
submitted_some side limits (Cut ∷ past) legal = submitted_some side limits past legal.1

short_more : (max : ℕ) (messages : List (List ℕ)) (m : List ℕ) → AreShort max messages → length m ≤ max → AreShort max (messages ++ m ∷ [])
short_more max [] m s here = (here, tt)
short_more max (first ∷ messages) m s here = (s.0, short_more max messages m s.1 here)

-- no message that was submitted is longer than what is settled
pub submitted_short : (side : EndId) (limits : Limits) (past : List Event) (agreed : Agreed) → IsLegal side limits past → Settles side limits past agreed
    → AreShort agreed.message_max (messages_submitted past)
submitted_short side limits [] agreed legal s = tt
submitted_short side limits (Post n ∷ past) agreed legal s = submitted_short side limits past agreed legal.1 (settles_before side limits (Post n) past agreed s)
submitted_short side limits (Submit m ∷ past) agreed legal s =
    let was = settles_before side limits (Submit m) past agreed s in
    short_more agreed.message_max (messages_submitted past) m (submitted_short side limits past agreed legal.1 was)
    (omega (arith, (submittable side limits past m legal).short, limit_settled side limits past agreed was))
submitted_short side limits (Emit f ∷ past) agreed legal s = submitted_short side limits past agreed legal.1 (settles_before side limits (Emit f) past agreed s)
submitted_short side limits (Take f ∷ past) agreed legal s = submitted_short side limits past agreed legal.1 (settles_before side limits (Take f) past agreed s)
submitted_short side limits (Cut ∷ past) agreed legal s = submitted_short side limits past agreed legal.1 (settles_before side limits Cut past agreed s)

-- ---- the pieces

-- the bytes of a message that one frame carries: at least one
abbrev pub size_of : Agreed → ℕ
size_of agreed = agreed.send_size - 24

pub size_some : (side : EndId) (limits : Limits) (past : List Event) (agreed : Agreed) → Settles side limits past agreed → 0 < size_of agreed
size_some side limits past agreed s = omega (arith, s.lawful.send_size.0)

-- the pieces, of this size, of the messages that were submitted
abbrev pub pieces_submitted : ℕ → List Event → List Piece
pieces_submitted size past = flat_map (pieces_of size) (messages_submitted past)

pub submitted-more : (size : ℕ) (past : List Event) (m : List ℕ) → pieces_submitted size (Submit m ∷ past) ≡ pieces_submitted size past ++ pieces_of size m
submitted-more size past m =
    flat_map-append (pieces_of size) (messages_submitted past) (m ∷ [])
    ∙ ap (λ (ps : List Piece). pieces_submitted size past ++ ps) (append-nil (pieces_of size m))

-- a piece that one frame carries
abbrev pub IsSendable : Agreed → Piece → Type 0
IsSendable agreed p = IsPart (size_of agreed) agreed.message_max p

sendable_each : (size max : ℕ) (messages : List (List ℕ)) → 0 < size → AreShort max messages → All (IsPart size max) (flat_map (pieces_of size) messages)
sendable_each size max [] some short = All-nil (IsPart size max)
sendable_each size max (m ∷ messages) some short =
    All-append (IsPart size max) (pieces_of size m) (flat_map (pieces_of size) messages) (pieces_of-parts size max m some short.0) (sendable_each size max messages some short.1)

-- each piece of what was submitted may be sent
pub sendable : (side : EndId) (limits : Limits) (past : List Event) (agreed : Agreed) → IsLegal side limits past → Settles side limits past agreed
    → All (IsSendable agreed) (pieces_submitted (size_of agreed) past)
sendable side limits past agreed legal s =
    sendable_each (size_of agreed) agreed.message_max (messages_submitted past) (size_some side limits past agreed s) (submitted_short side limits past agreed legal s)
