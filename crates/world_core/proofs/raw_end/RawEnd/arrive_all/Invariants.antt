-- The frames so far wait, each in a receive that was posted.
use Rattle.std.proofs.Common.{◌≡◌, ◌+◌, ◌≤◌, take}
use Rattle.smbd_base.specs.Counts.{receives_posted}
use Rattle.world_core.specs.Raw.{frames_met}
use Rattle.world_core.proofs.raw_end.RawEnd.arrive_all.Given as goal

abbrev pub invariant-loop-frame : goal.invariant-loop-frame
invariant-loop-frame l = record {
  arrived : l.self ≡ record l.initial.self { waiting = take l.frame-index l.frames };
  counted : l.number ≡ frames_met l.initial.self.past + l.frame-index;
  placed : frames_met l.initial.self.past + l.frame-index ≤ receives_posted l.initial.self.past;
}
