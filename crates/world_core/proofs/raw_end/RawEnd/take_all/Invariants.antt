-- The frames that are left are taken from here on, after which those of the burst were.
use Rattle.std.proofs.Common.{◌≡◌, ℕ, ◌+◌, true, Option, List, drop}
use Rattle.smbd_base.specs.declared.event.Event.{Event}
use Rattle.smbd_base.specs.declared.faults.TakeFault.{TakeFault}
use Rattle.smbd_base.specs.History.{is_ready}
use Rattle.world_core.specs.Raw.{frames_met, Takes}
use Rattle.world_core.proofs.raw_end.RawEnd.take_all.Given as goal

abbrev pub invariant-loop-frame : goal.invariant-loop-frame
invariant-loop-frame l = record {
  course : (refused : Option (ℕ × TakeFault)) (after : List Event)
      → Takes l.initial.self.side l.initial.self.limits l.self.past (drop l.frame-index l.frames) refused after
      → Takes l.initial.self.side l.initial.self.limits l.initial.self.past l.frames refused after;
  waits : l.self ≡ record l.initial.self { past = l.self.past; waiting = drop l.frame-index l.frames };
  ready : is_ready l.initial.self.side l.initial.self.limits l.self.past ≡ true;
  met : frames_met l.self.past ≡ frames_met l.initial.self.past + l.frame-index;
}
