use Rattle.std.proofs.Common.{◌≡◌, ◌+◌, ◌++◌, ◌<◌, ℕ, List, [], ◌∷◌, take, map, get_or, length, sym, ap, ◌∙◌, append_assoc, arith}
use Rattle.std.specs.List.{flat_map}
use Rattle.std.proofs.lemmas.List.{take_more, map-append, append-nil}
use Rattle.std.proofs.lemmas.List.Concat.{flat_map-append}
use Rattle.buffer_descriptor.specs.declared.descriptor.Descriptor.{Descriptor}
use Rattle.buffer_descriptor.specs.Descriptors.{descriptor_bytes}
use Rattle.file_transfer.specs.declared.loaded_page.LoadedPage.{LoadedPage}
use Rattle.file_transfer.specs.ClientStands.{descriptor_in}
use Rattle.file_transfer.proofs.writing.push_descriptors.Goals as goal

bytes-more : (text : List ℕ) (ps : List LoadedPage) (i : ℕ) (p : LoadedPage) (before bytes after : List ℕ) → i < length ps → p ≡ get_or ps i p
    → before ≡ text ++ flat_map descriptor_bytes (map descriptor_in (take i ps)) → bytes ≡ descriptor_bytes p.descriptor → after ≡ before ++ bytes
    → after ≡ text ++ flat_map descriptor_bytes (map descriptor_in (take (i + 1) ps))
bytes-more text ps i p before bytes after h at b e f =
    f ∙ ap (λ (xs : List ℕ). xs ++ bytes) b ∙ append_assoc text (flat_map descriptor_bytes (map descriptor_in (take i ps))) bytes
    ∙ ap (λ (xs : List ℕ). text ++ (flat_map descriptor_bytes (map descriptor_in (take i ps)) ++ xs)) (e ∙ sym (append-nil (descriptor_bytes p.descriptor)))
    ∙ ap (λ (xs : List ℕ). text ++ xs)
    (sym (flat_map-append descriptor_bytes (map descriptor_in (take i ps)) (p.descriptor ∷ [])))
    ∙ ap (λ (xs : List Descriptor). text ++ flat_map descriptor_bytes xs) (sym (map-append descriptor_in (take i ps) (p ∷ [])))
    ∙ ap (λ (q : LoadedPage). text ++ flat_map descriptor_bytes (map descriptor_in (take i ps ++ q ∷ []))) at
    ∙ ap (λ (xs : List LoadedPage). text ++ flat_map descriptor_bytes (map descriptor_in xs)) (sym (take_more ps i p h))

pub loop-page-preserved : goal.loop-page-preserved
loop-page-preserved c =
    bytes-more c.args.text.now.items c.args.pages.now c.loop-page.page-index c.page-item.result c.loop-page.text.items c.write.new.out
    c.extend_from_slice.new.self.items (omega arith) c.page-item.is c.loop-page.invariant c.write.ensures.value c.in_ok-extend_from_slice.ensures.items
