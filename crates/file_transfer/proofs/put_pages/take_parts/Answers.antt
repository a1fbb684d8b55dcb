use Rattle.std.proofs.Common.{◌≡◌, ◌+◌, ℕ, List, [], ◌∷◌, ◌++◌, length, sym, ap, ◌∙◌, append_assoc, length-append, arith}
use Rattle.file_transfer.proofs.put_pages.take_parts.Goals as goal

pub loop-part-preserved : goal.loop-part-preserved
loop-part-preserved c =
    let i = c.loop-part.invariant in
    let part : List ℕ = c.in-Some.part in
    let left : c.loop-part.parts.items ≡ part ∷ c.pop_front.new.self.items = c.in-Some.ensures.items in
    let all : (i.taken ++ part ∷ []) ++ c.pop_front.new.self.items ≡ c.args.parts.items =
    append_assoc i.taken (part ∷ []) c.pop_front.new.self.items ∙ ap (λ (ps : List (List ℕ)). i.taken ++ ps) (sym left) ∙ i.all in
    let more : length (i.taken ++ part ∷ []) ≡ length i.taken + 1 = length-append i.taken (part ∷ []) in
    let size : length i.taken + 1 + length c.pop_front.new.self.items ≡ length c.args.parts.items =
    omega (arith, ap length all, length-append (i.taken ++ part ∷ []) c.pop_front.new.self.items, more) in
    record {
      taken = i.taken ++ part ∷ [];
      all = all;
      page = omega (arith, i.page, more);
      pages = c.take_part.ensures.pages ∙ i.pages;
      kept = omega (arith, i.kept, c.take_part.ensures.kept, more);
      stand = λ w past s room.
          c.take_part.ensures.taken w c.args.first i.taken past (i.stand w past s room) i.page
          (record { once = λ page lo hi. room.once page (omega (arith, i.page, lo)) (omega (arith, i.page, hi, size)) });
    }
