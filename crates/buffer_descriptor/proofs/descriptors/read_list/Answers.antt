use Rattle.std.proofs.Common.{◌≡◌, ℕ, ◌+◌, ◌*◌, ◌-◌, ◌<◌, min, Ok, List, [], ◌∷◌, ◌++◌, length, get_or, take, drop, ap, sym, ◌∙◌, below_more, arith, rules}
use Rattle.std.specs.Result.{is_ok}
use Rattle.std.proofs.lemmas.List.{drop_min, take_rest, get_or_push, get_or_append_left}
use Rattle.buffer_descriptor.specs.declared.descriptor.Descriptor.{Descriptor}
use Rattle.buffer_descriptor.specs.Descriptors.{descriptor_of, descriptor_at}
use Rattle.buffer_descriptor.proofs.descriptors.read_list.Goals as goal

-- what stands at a place is what is read from there, or from the end where that comes first
at-place : (bytes : List ℕ) (place from : ℕ) → from ≡ min (16 * place) (length bytes)
    → descriptor_at place bytes ≡ descriptor_of (take (length bytes - from) (drop from bytes))
at-place bytes place from e =
    ap descriptor_of (sym (drop_min (16 * place) bytes) ∙ ap (λ (n : ℕ). drop n bytes) (sym e) ∙ sym (take_rest bytes from))

-- one descriptor more
each-more : (bytes : List ℕ) (place : ℕ) (list pushed : List Descriptor) (one : Descriptor) → length list ≡ place
    → pushed ≡ list ++ one ∷ [] → descriptor_at place bytes ≡ Ok one
    → ((k : ℕ) (d : Descriptor) → k < place → descriptor_at k bytes ≡ Ok (get_or list k d))
    → (k : ℕ) (d : Descriptor) → k < place + 1 → descriptor_at k bytes ≡ Ok (get_or pushed k d)
each-more bytes place list pushed one len is here each k d below =
    below_more (λ (j : ℕ). descriptor_at j bytes ≡ Ok (get_or pushed j d)) place
    (λ j h. each j d h ∙ ap Ok (sym (ap (λ (xs : List Descriptor). get_or xs j d) is ∙ get_or_append_left list (one ∷ []) d j (omega arith))))
    (here ∙ ap Ok (sym (ap (λ (xs : List Descriptor). get_or xs place d) is ∙ get_or_push list one d place len)))
    k below

pub returns-in-Err-clause-err : goal.returns-in-Err-clause-err
returns-in-Err-clause-err c = record {
  among = omega arith;
  fails = at-place c.args.bytes.now c.loop-place.place c.min-from.result (cc) ∙ sym c.in-Err.ensures.value;
  before = λ k h. ap is_ok (c.loop-place.invariant.each k (record { offset = 0; token = 0; length = 0 }) h);
}

pub loop-place-preserved : goal.loop-place-preserved
loop-place-preserved c = record {
  as_many = search rules;
  room = omega (arith, c.push.ensures.capacity);
  each =
      each-more c.args.bytes.now c.loop-place.place c.loop-place.list.items c.push.new.self.items c.in-Ok.descriptor (search rules) (search rules)
      (at-place c.args.bytes.now c.loop-place.place c.min-from.result (cc) ∙ sym c.in-Ok.ensures.value)
      c.loop-place.invariant.each;
}
