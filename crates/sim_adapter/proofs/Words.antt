-- What a step does to the words.
use Rattle.std.proofs.Common.{◌≡◌, ◌≢◌, ℕ, ◌+◌, ◌%◌, ◌^◌, ◌<◌, ◌≤◌, Bool, true, false, ◌||◌, List, [], ◌∷◌, ◌++◌, length, Fits, w64, slice_index, slice_set, sym, refl, ap, ◌∙◌, subst, arith, length-append}
use Rattle.smbd_base.specs.declared.end_id.EndId.{EndId}
use Rattle.smbd_base.specs.declared.end_id.EndId.TheVariants.{Client, Server}
use Rattle.smbd_base.specs.declared.event.Event.{Event}
use Rattle.smbd_base.specs.declared.event.Event.TheVariants.{Post, Submit, Emit, Take, Cut}
use Rattle.smbd_base.specs.Counts.{peer_of, receives_posted}
use Rattle.smbd_base.specs.History.{is_cut}
use Rattle.smbd_base.specs.Joint.{emitted_frames, taken_frames}
use Rattle.sim_adapter.specs.Rule.{IsShort, MayGrow, cut_count, words_of, words_by, posted_word, emitted_word, taken_word}

pub one_more : (xs : List (List ℕ)) (f : List ℕ) → length xs < 4611686018427387904 → (length xs + 1) % 2 ^ 64 ≡ length (xs ++ f ∷ [])
one_more xs f few = let e : (length xs + 1) % 2 ^ 64 ≡ length xs + 1 = omega arith in e ∙ (omega (arith, length-append xs (f ∷ [])))

pub emits_words : (side : EndId) (own peer : List Event) (f : List ℕ) (ws : List ℕ) → ws ≡ words_by side own peer → length (emitted_frames own) < 4611686018427387904
    → slice_set ws (emitted_word side) ((slice_index ws (emitted_word side) + 1) % 2 ^ 64) ≡ words_by side (Emit f ∷ own) peer
emits_words Client own peer f ws is few = subst (λ (w : List ℕ). slice_set w 2 ((slice_index w 2 + 1) % 2 ^ 64) ≡ words_of (Emit f ∷ own) peer) (sym is)
    (ap (λ (z : ℕ). slice_set (words_of own peer) 2 z) (one_more (emitted_frames own) f few))
emits_words Server own peer f ws is few = subst (λ (w : List ℕ). slice_set w 5 ((slice_index w 5 + 1) % 2 ^ 64) ≡ words_of peer (Emit f ∷ own)) (sym is)
    (ap (λ (z : ℕ). slice_set (words_of peer own) 5 z) (one_more (emitted_frames own) f few))

pub takes_words : (side : EndId) (own peer : List Event) (f : List ℕ) (ws : List ℕ) → ws ≡ words_by side own peer → length (taken_frames own) < 4611686018427387904
    → slice_set ws (taken_word side) ((slice_index ws (taken_word side) + 1) % 2 ^ 64) ≡ words_by side (Take f ∷ own) peer
takes_words Client own peer f ws is few = subst (λ (w : List ℕ). slice_set w 3 ((slice_index w 3 + 1) % 2 ^ 64) ≡ words_of (Take f ∷ own) peer) (sym is)
    (ap (λ (z : ℕ). slice_set (words_of own peer) 3 z) (one_more (taken_frames own) f few))
takes_words Server own peer f ws is few = subst (λ (w : List ℕ). slice_set w 6 ((slice_index w 6 + 1) % 2 ^ 64) ≡ words_of peer (Take f ∷ own)) (sym is)
    (ap (λ (z : ℕ). slice_set (words_of peer own) 6 z) (one_more (taken_frames own) f few))

-- the cut word shows a cut, which is the peer's where the end did not cut
pub cut_shown : (side : EndId) (own peer : List Event) (ws : List ℕ) → ws ≡ words_by side own peer → is_cut own ≡ false → slice_index ws 0 ≢ 0 → is_cut peer ≡ true
cut_shown Client own peer ws is uncut set = shown (is_cut own) (is_cut peer) uncut (λ e. set (ap (λ (w : List ℕ). slice_index w 0) is ∙ e))
  where
    shown : (a b : Bool) → a ≡ false → (cut_count (a || b) ≢ 0) → b ≡ true
    shown a true e s = refl
    shown true false e s = absurd cc
    shown false false e s = absurd (s refl)
cut_shown Server own peer ws is uncut set = shown (is_cut peer) (is_cut own) uncut (λ e. set (ap (λ (w : List ℕ). slice_index w 0) is ∙ e))
  where
    shown : (a b : Bool) → b ≡ false → (cut_count (a || b) ≢ 0) → a ≡ true
    shown true b e s = refl
    shown false true e s = absurd cc
    shown false false e s = absurd (s refl)

pub peer_count : (side : EndId) (own peer : List Event) (ws : List ℕ) → ws ≡ words_by side own peer → slice_index ws (emitted_word (peer_of side)) ≡ length (emitted_frames peer)
peer_count Client own peer ws is = ap (λ (w : List ℕ). slice_index w 5) is
peer_count Server own peer ws is = ap (λ (w : List ℕ). slice_index w 2) is

posted_more : (a n : ℕ) → a + n < 4611686018427387904 + 255 → (a + n) % 2 ^ 64 ≡ a + n
posted_more a n few = omega arith

pub posts_words : (side : EndId) (own peer : List Event) (n : ℕ) (ws : List ℕ) → ws ≡ words_by side own peer → receives_posted own + n < 4611686018427387904 + 255
    → slice_set ws (posted_word side) ((slice_index ws (posted_word side) + n) % 2 ^ 64) ≡ words_by side (Post n ∷ own) peer
posts_words Client own peer n ws is few = subst (λ (w : List ℕ). slice_set w 1 ((slice_index w 1 + n) % 2 ^ 64) ≡ words_of (Post n ∷ own) peer) (sym is)
    (ap (λ (z : ℕ). slice_set (words_of own peer) 1 z) (posted_more (receives_posted own) n few))
posts_words Server own peer n ws is few = subst (λ (w : List ℕ). slice_set w 4 ((slice_index w 4 + n) % 2 ^ 64) ≡ words_of peer (Post n ∷ own)) (sym is)
    (ap (λ (z : ℕ). slice_set (words_of peer own) 4 z) (posted_more (receives_posted own) n few))

or_true : (b : Bool) → 1 ≡ cut_count (b || true)
or_true true = refl
or_true false = refl

pub cuts_words : (side : EndId) (own peer : List Event) (ws : List ℕ) → ws ≡ words_by side own peer → slice_set ws 0 1 ≡ words_by side (Cut ∷ own) peer
cuts_words Client own peer ws is = ap (λ (w : List ℕ). slice_set w 0 1) is
cuts_words Server own peer ws is = ap (λ (w : List ℕ). slice_set w 0 1) is ∙ ap (λ (z : ℕ). slice_set (words_of peer own) 0 z) (or_true (is_cut peer))

pub submits_words : (side : EndId) (own peer : List Event) (m : List ℕ) (ws : List ℕ) → ws ≡ words_by side own peer → ws ≡ words_by side (Submit m ∷ own) peer
submits_words Client own peer m ws is = is
submits_words Server own peer m ws is = is

-- ---- a short history has few frames

pub emitted_within : (past : List Event) → length (emitted_frames past) ≤ length past
emitted_within [] = omega arith
emitted_within (Post n ∷ past) = omega (arith, emitted_within past)
emitted_within (Submit m ∷ past) = omega (arith, emitted_within past)
emitted_within (Emit f ∷ past) = omega (arith, emitted_within past, length-append (emitted_frames past) (f ∷ []))
emitted_within (Take f ∷ past) = omega (arith, emitted_within past)
emitted_within (Cut ∷ past) = omega (arith, emitted_within past)

pub taken_within : (past : List Event) → length (taken_frames past) ≤ length past
taken_within [] = omega arith
taken_within (Post n ∷ past) = omega (arith, taken_within past)
taken_within (Submit m ∷ past) = omega (arith, taken_within past)
taken_within (Emit f ∷ past) = omega (arith, taken_within past)
taken_within (Take f ∷ past) = omega (arith, taken_within past, length-append (taken_frames past) (f ∷ []))
taken_within (Cut ∷ past) = omega (arith, taken_within past)

pub longer : (event : Event) (past : List Event) → MayGrow past → IsShort (event ∷ past)
longer event past few = omega (arith, few)

-- so a count of them fits a word
pub count_fits : (count frames : ℕ) (past : List Event) → count ≡ frames → frames ≤ length past → MayGrow past → Fits w64 (count + 1)
count_fits count frames past is within few = omega arith
