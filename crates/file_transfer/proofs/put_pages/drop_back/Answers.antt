use Rattle.std.proofs.Common.{◌≡◌, ◌-◌, ◌<◌, List, length, drop, refl, sym, ap, ◌∙◌, arith}
use Rattle.std.specs.Prelude.{slice_get}
use Rattle.std.proofs.lemmas.Option.{slice_get_read}
use Rattle.file_transfer.specs.declared.put_pages.UnderWay.{UnderWay}
use Rattle.file_transfer.proofs.PutPagesLemmas.{dropped-back, dropped-kept, get-still, nothing_after, length-remove}
use Rattle.file_transfer.proofs.put_pages.drop_back.Goals as goal

pub loop-place-init : goal.loop-place-init
loop-place-init c =
    let size : c.len-place.result ≡ length c.args.under_way.now.items = c.len-place.ensures ∙ c.args.under_way.now.ok.0 in
    record {
      within = omega arith;
      old = omega arith;
      front = λ k h. refl;
      rest = λ w past s. nothing_after past c.args.under_way.now.items c.len-place.result (omega arith);
      room = refl;
    }

pub loop-place-preserved-then-is_back_on : goal.loop-place-preserved-then-is_back_on
loop-place-preserved-then-is_back_on c =
    let i = c.loop-place.invariant in
    let some : 0 < c.loop-place.place = c.loop-place-test.true in
    let at = slice_get_read c.loop-place.under_way.items _ (c.loop-place.place - 1) c.index.result.now refl (omega (arith, i.within)) c.index.ensures in
    let shorter = length-remove c.loop-place.under_way.items (c.loop-place.place - 1) (omega (arith, i.within)) in
    record {
      within = omega (arith, i.within, ap length c.remove.ensures.items, shorter);
      old = omega (arith, i.old);
      front = λ k h. ap (λ (xs : List UnderWay). slice_get xs k) c.remove.ensures.items ∙ get-still c.loop-place.under_way.items c.args.under_way.now.items c.loop-place.place i.front k h;
      rest = λ w past s. ap (drop (c.loop-place.place - 1)) c.remove.ensures.items
          ∙ (dropped-back w c.loop-place.place past c.loop-place.under_way.items c.args.under_way.now.items c.index.result.now some i.within at
          (sym (i.front (c.loop-place.place - 1) (omega arith)) ∙ at) (sym (c.is_back_on.ensures w past s) ∙ c.if-is_back_on.true) (record { rest = i.rest w past s })).rest;
      room = c.remove.ensures.capacity ∙ i.room;
    }

pub loop-place-preserved : goal.loop-place-preserved
loop-place-preserved c =
    let i = c.loop-place.invariant in
    let some : 0 < c.loop-place.place = c.loop-place-test.true in
    let at = slice_get_read c.loop-place.under_way.items _ (c.loop-place.place - 1) c.index.result.now refl (omega (arith, i.within)) c.index.ensures in
    record {
      within = omega (arith, i.within);
      old = omega (arith, i.old);
      front = λ k h. i.front k (omega arith);
      rest = λ w past s. (dropped-kept w c.loop-place.place past c.loop-place.under_way.items c.args.under_way.now.items c.index.result.now some at
          (sym (i.front (c.loop-place.place - 1) (omega arith)) ∙ at) (sym (c.is_back_on.ensures w past s) ∙ c.if-is_back_on.false) (record { rest = i.rest w past s })).rest;
      room = i.room;
    }
