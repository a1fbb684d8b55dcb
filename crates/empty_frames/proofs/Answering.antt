-- Which empty frames answer, which frames ask for a response, and that each data transfer message is empty or not.
use Rattle.std.proofs.Common.{◌≡◌, ℕ, ◌+◌, ◌≤◌, Bool, true, false, not, ◌&&◌, ◌||◌, cond, List, [], ◌∷◌, refl, ◌∙◌, ap, sym, arith}
use Rattle.smbd_base.specs.declared.end_id.EndId.{EndId}
use Rattle.smbd_base.specs.declared.event.Event.{Event}
use Rattle.smbd_base.specs.declared.event.Event.TheVariants.{Post, Submit, Emit, Take, Cut}
use Rattle.smbd_base.specs.declared.next.Next.TheVariants as due
use Rattle.smbd_base.specs.Limits.{Limits, IsLawful}
use Rattle.smbd_base.specs.Counts.{frames_sent, is_silent, is_unheard}
use Rattle.smbd_base.specs.DataFrame.{data_frame_of}
use Rattle.smbd_base.specs.History.{asks, carries, is_response_owed, next_event, pieces_sent, pieces_waiting, IsLegal}
use Rattle.smbd_base.proofs.Counting.{is_empty}
use Rattle.smbd_base.proofs.Inversion.{emits}
use Rattle.empty_frames.specs.EmptyFrames.{is_empty_message, is_sent_empty, empty_frames_sent, empty_answers_sent, empty_grants_sent, asking_frames_sent, asking_frames_taken}
use Rattle.empty_frames.proofs.Reading.{sends_data}

-- ---- answers

answer_by : (empty owed : Bool) (answers asked : ℕ) → answers + cond owed 1 0 ≤ asked → cond (empty && owed) (answers + 1) answers + 0 ≤ asked
answer_by true true answers asked h = omega arith
answer_by true false answers asked h = omega arith
answer_by false owed answers asked h = omega arith

ask_by : (asked_now owed : Bool) (answers asked : ℕ) → answers + cond owed 1 0 ≤ asked → answers + cond (asked_now || owed) 1 0 ≤ cond asked_now (asked + 1) asked
ask_by true true answers asked h = omega arith
ask_by true false answers asked h = omega arith
ask_by false owed answers asked h = h

-- where a response is owed, a frame that asked for it was not answered yet
answers_and_owed : (past : List Event) → empty_answers_sent past + cond (is_response_owed past) 1 0 ≤ asking_frames_taken past
answers_and_owed [] = omega arith
answers_and_owed (Post n ∷ past) = answers_and_owed past
answers_and_owed (Submit m ∷ past) = answers_and_owed past
answers_and_owed (Emit f ∷ past) = answer_by (is_sent_empty past f) (is_response_owed past) (empty_answers_sent past) (asking_frames_taken past) (answers_and_owed past)
answers_and_owed (Take f ∷ past) =
    ask_by (not (is_unheard past) && asks (data_frame_of f)) (is_response_owed past) (empty_answers_sent past) (asking_frames_taken past) (answers_and_owed past)
answers_and_owed (Cut ∷ past) = answers_and_owed past

pub answers_asked : (past : List Event) → empty_answers_sent past ≤ asking_frames_taken past
answers_asked past = omega (arith, answers_and_owed past)

split_by : (empty owed : Bool) (all answers grants : ℕ) → all ≡ answers + grants
    → cond empty (all + 1) all ≡ cond (empty && owed) (answers + 1) answers + cond (empty && not owed) (grants + 1) grants
split_by true true all answers grants h = omega arith
split_by true false all answers grants h = omega arith
split_by false owed all answers grants h = h

pub answers_or_grants : (past : List Event) → empty_frames_sent past ≡ empty_answers_sent past + empty_grants_sent past
answers_or_grants [] = omega arith
answers_or_grants (Post n ∷ past) = answers_or_grants past
answers_or_grants (Submit m ∷ past) = answers_or_grants past
answers_or_grants (Emit f ∷ past) =
    split_by (is_sent_empty past f) (is_response_owed past) (empty_frames_sent past) (empty_answers_sent past) (empty_grants_sent past) (answers_or_grants past)
answers_or_grants (Take f ∷ past) = answers_or_grants past
answers_or_grants (Cut ∷ past) = answers_or_grants past

-- ---- empty or filled

opposite : (empty carried none : Bool) → empty ≡ none → carried ≡ not none → empty ≡ not carried
opposite empty carried true e c = e ∙ ap not (sym c)
opposite empty carried false e c = e ∙ ap not (sym c)

pub empty_or_filled : (side : EndId) (limits : Limits) (past : List Event) (frame : List ℕ) → IsLawful limits → IsLegal side limits past
    → next_event side limits past ≡ due.Emit frame → is_silent past ≡ false → is_empty_message (data_frame_of frame) ≡ not (carries (data_frame_of frame))
empty_or_filled side limits past frame lawful legal next spoken =
    let s = sends_data side limits past frame lawful legal (emits side limits past frame next) spoken in
    opposite (is_empty_message (data_frame_of frame)) (carries (data_frame_of frame)) (is_empty (pieces_waiting side limits past)) s.read.empty s.read.filled

kind_by : (silent empty carried : Bool) (empties filled sent : ℕ) → (silent ≡ false → empty ≡ not carried) → empties + filled + cond silent 0 1 ≡ sent
    → cond (not silent && empty) (empties + 1) empties + cond (not silent && carried) (filled + 1) filled + 1 ≡ sent + 1
kind_by true empty carried empties filled sent one h = omega arith
kind_by false true true empties filled sent one h = absurd (let e = one refl in let b : ⊥ = cc in b)
kind_by false true false empties filled sent one h = omega arith
kind_by false false true empties filled sent one h = omega arith
kind_by false false false empties filled sent one h = absurd (let e = one refl in let b : ⊥ = cc in b)

kinds : (side : EndId) (limits : Limits) (past : List Event) → IsLawful limits → IsLegal side limits past
    → empty_frames_sent past + pieces_sent past + cond (is_silent past) 0 1 ≡ frames_sent past
kinds side limits [] lawful legal = refl
kinds side limits (Post n ∷ past) lawful legal = kinds side limits past lawful legal.1
kinds side limits (Submit m ∷ past) lawful legal = kinds side limits past lawful legal.1
kinds side limits (Emit f ∷ past) lawful legal =
    kind_by (is_silent past) (is_empty_message (data_frame_of f)) (carries (data_frame_of f)) (empty_frames_sent past) (pieces_sent past) (frames_sent past)
    (empty_or_filled side limits past f lawful legal.1 legal.0) (kinds side limits past lawful legal.1)
kinds side limits (Take f ∷ past) lawful legal = kinds side limits past lawful legal.1
kinds side limits (Cut ∷ past) lawful legal = kinds side limits past lawful legal.1

pub all_kinds : (side : EndId) (limits : Limits) (past : List Event) → IsLawful limits → IsLegal side limits past → is_silent past ≡ false
    → empty_frames_sent past + pieces_sent past + 1 ≡ frames_sent past
all_kinds side limits past lawful legal spoken = rw spoken at (kinds side limits past lawful legal)

most_by : (silent : Bool) (n sent : ℕ) → n + cond silent 0 1 ≡ sent → sent ≤ n + 1
most_by true n sent h = omega arith
most_by false n sent h = omega arith

-- one frame at most is neither: the negotiation message
pub sent_most : (side : EndId) (limits : Limits) (past : List Event) → IsLawful limits → IsLegal side limits past
    → frames_sent past ≤ empty_frames_sent past + pieces_sent past + 1
sent_most side limits past lawful legal =
    most_by (is_silent past) (empty_frames_sent past + pieces_sent past) (frames_sent past) (kinds side limits past lawful legal)

-- ---- frames that ask

pub asking_filled : (side : EndId) (limits : Limits) (past : List Event) (frame : List ℕ) → IsLawful limits → IsLegal side limits past
    → next_event side limits past ≡ due.Emit frame → is_silent past ≡ false → asks (data_frame_of frame) ≡ true → carries (data_frame_of frame) ≡ true
asking_filled side limits past frame lawful legal next spoken =
    (sends_data side limits past frame lawful legal (emits side limits past frame next) spoken).read.asking

asking_by : (silent asked carried : Bool) (asking filled : ℕ) → (silent ≡ false → asked ≡ true → carried ≡ true) → asking ≤ filled
    → cond (not silent && asked) (asking + 1) asking ≤ cond (not silent && carried) (filled + 1) filled
asking_by true asked carried asking filled one h = h
asking_by false true true asking filled one h = omega arith
asking_by false true false asking filled one h = absurd (let e = one refl refl in let b : ⊥ = cc in b)
asking_by false false true asking filled one h = omega arith
asking_by false false false asking filled one h = h

pub asking_sent : (side : EndId) (limits : Limits) (past : List Event) → IsLawful limits → IsLegal side limits past → asking_frames_sent past ≤ pieces_sent past
asking_sent side limits [] lawful legal = omega arith
asking_sent side limits (Post n ∷ past) lawful legal = asking_sent side limits past lawful legal.1
asking_sent side limits (Submit m ∷ past) lawful legal = asking_sent side limits past lawful legal.1
asking_sent side limits (Emit f ∷ past) lawful legal =
    asking_by (is_silent past) (asks (data_frame_of f)) (carries (data_frame_of f)) (asking_frames_sent past) (pieces_sent past)
    (asking_filled side limits past f lawful legal.1 legal.0) (asking_sent side limits past lawful legal.1)
asking_sent side limits (Take f ∷ past) lawful legal = asking_sent side limits past lawful legal.1
asking_sent side limits (Cut ∷ past) lawful legal = asking_sent side limits past lawful legal.1
