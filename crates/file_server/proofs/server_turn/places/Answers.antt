use Rattle.std.proofs.Common.{◌≡◌, ℕ, ◌==◌, true, ◌++◌, List, [], ◌∷◌, length, append-nil, refl, sym, ap, ◌∙◌, arith}
use Rattle.std.proofs.lemmas.Bool.Decides.{nat_tests}
use Rattle.buffer_descriptor.specs.declared.descriptor.Descriptor.{Descriptor}
use Rattle.file_messages.specs.declared.job.Work.{Work}
use Rattle.file_pasts.specs.ServerDue.{places_of}
use Rattle.file_server.proofs.ServerLists.{drop_all}
use Rattle.file_server.proofs.server_turn.places.Goals.{else-loop-descriptor-test, then-loop-descriptor-test+then-is_empty}
use Rattle.file_server.proofs.server_turn.places.Goals as goal

none_left : (ds : List Descriptor) (bytes : List ℕ) → (length bytes == 0) ≡ true → places_of ds bytes ≡ []
none_left [] bytes h = refl
none_left (d ∷ ds) [] h = refl
none_left (d ∷ ds) (b ∷ bytes) h = absurd (grind (arith, nat_tests))

at_end : (jobs rest all : List Work) → jobs ++ rest ≡ all → rest ≡ [] → jobs ≡ all
at_end jobs rest all e none = sym (append-nil jobs) ∙ ap (λ (t : List Work). jobs ++ t) (sym none) ∙ e

pub returns : goal.returns
returns c = at_end _ _ _ c.loop-descriptor.invariant
    (elim c.loop-descriptor-test.branch [
      | else-loop-descriptor-test w ↦ ap (λ (ds : List Descriptor). places_of ds c.loop-descriptor.left.now) (drop_all c.loop-descriptor.descriptor-index c.args.descriptors.now (omega arith))
      | then-loop-descriptor-test+then-is_empty w ↦ none_left _ _ (sym w.is_empty.ensures ∙ w.if-is_empty.true)
    ])
