-- The frames that are left come from here on, after which all of them have come.
use Rattle.std.proofs.Common.{◌≡◌, ◌+◌, [], true, length}
use Rattle.smbd_base.specs.History.{is_ready}
use Rattle.world_core.specs.Raw.{frames_met, Ended, RunsOn}
use Rattle.world_core.proofs.raw.run_raw.Given as goal

abbrev pub invariant-loop-rest : goal.invariant-loop-rest
invariant-loop-rest l = record {
  course : (ended : Ended) → RunsOn l.fn.end l.fn.limits l.fn.burst l.raw.past l.rest ended → RunsOn l.fn.end l.fn.limits l.fn.burst l.initial.raw.past l.frames ended;
  side : l.raw.side ≡ l.fn.end;
  limits : l.raw.limits ≡ l.fn.limits;
  empty : l.raw.waiting ≡ [];
  ready : is_ready l.fn.end l.fn.limits l.raw.past ≡ true;
  counted : frames_met l.raw.past + length l.rest ≡ length l.frames;
}

abbrev pub decreases-loop-rest : goal.decreases-loop-rest
decreases-loop-rest l = length l.rest
