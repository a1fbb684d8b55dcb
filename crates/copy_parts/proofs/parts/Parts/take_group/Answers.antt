use Rattle.std.proofs.Common.{Bool, sym, subst}
use Rattle.copy_ends.specs.Clients.{ClientCameBy}
use Rattle.copy_parts.proofs.Taking.{HasGrouped, with_group, with_end, put-wants, some-grouped, none-grouped, told-end, put-taken}
use Rattle.copy_parts.proofs.parts.Parts.take_group.Goals as goal
use Rattle.copy_parts.proofs.parts.Parts.take_group.Goals.{then-not-is_empty+in_ok-group, else-not-is_empty}

pub returns-then-ended : goal.returns-then-ended
returns-then-ended c = λ o p put s h.
    let bytes = c.args.bytes.now in
    let a = c.args.self.now in
    let b = c.if-not-is_empty.self in
    let g : HasGrouped o p bytes a b = elim c.if-not-is_empty.branch [
      | then-not-is_empty+in_ok-group w ↦ some-grouped o p bytes a b w.group.new.self w.self-is w.if-not-is_empty.ensures
          (w.in_ok-group.ensures.handed o.kind o.channel o.limits.pages p.client s.client (put-wants o p bytes c.args.ended put h))
      | else-not-is_empty w ↦ none-grouped o p bytes a b w.self-is w.if-not-is_empty.ensures s.client
    ] in
    put-taken o p bytes c.args.ended a b c.end.new.self put s h g
    (subst (λ (t : Bool). ClientCameBy o.kind o.channel o.limits.pages (with_end t (with_group bytes p.client)) c.end.new.self) (sym c.if-ended.true)
    (told-end o bytes p.client c.end.new.self put (c.end.ensures o.kind o.channel o.limits.pages (with_group bytes p.client) g.came)))

pub returns-else-ended : goal.returns-else-ended
returns-else-ended c = λ o p put s h.
    let bytes = c.args.bytes.now in
    let a = c.args.self.now in
    let b = c.if-not-is_empty.self in
    let g : HasGrouped o p bytes a b = elim c.if-not-is_empty.branch [
      | then-not-is_empty+in_ok-group w ↦ some-grouped o p bytes a b w.group.new.self w.self-is w.if-not-is_empty.ensures
          (w.in_ok-group.ensures.handed o.kind o.channel o.limits.pages p.client s.client (put-wants o p bytes c.args.ended put h))
      | else-not-is_empty w ↦ none-grouped o p bytes a b w.self-is w.if-not-is_empty.ensures s.client
    ] in
    put-taken o p bytes c.args.ended a b b.client put s h g
    (subst (λ (t : Bool). ClientCameBy o.kind o.channel o.limits.pages (with_end t (with_group bytes p.client)) b.client) (sym c.if-ended.false) g.came)
