use Rattle.std.proofs.Common.{◌≢◌, refl}
use Rattle.smbd_outside.specs.declared.status.Status.{Status}
use Rattle.smbd_outside.specs.declared.status.Status.TheVariants.{Cut}
use Rattle.end_workers.specs.Progress.{StaysUncut, moved}
use Rattle.end_workers.specs.Promise.{Stream, KeepsPromise}
use Rattle.end_workers.proofs.HandedOn.{handed-on}
use Rattle.end_workers.proofs.LogsStopping.{not-moved}
use Rattle.end_workers.proofs.Going.{standing-of}
use Rattle.end_workers.proofs.BytesRead.{is-wanted, all-read}
use Rattle.end_workers.proofs.copy.Copy.read.Goals as goal

pub loop-self-init : goal.loop-self-init
loop-self-init g c = record {
  on = c.requires;
  stored = λ o from to log was count s.
      not-moved (λ (x : Stream). StaysUncut o x to log c.args.self.now) from (g.S.Source.left c.args.source.now) (g.S.Source.faults c.args.source.now) was count s;
}

pub wants_bytes-requires : goal.wants_bytes-requires
wants_bytes-requires g c = standing-of c.loop-self.self c.loop-self.invariant.on

pub read_group-requires-clause-wanted : goal.read_group-requires-clause-wanted
read_group-requires-clause-wanted g c = is-wanted c.loop-self.self c.wants_bytes.result c.loop-self-test.true c.wants_bytes.ensures

pub loop-self-preserved : goal.loop-self-preserved
loop-self-preserved g c = record {
  on = c.in_ok-read_group.ensures.on;
  stored = λ o from to log was count s.
      c.in_ok-read_group.ensures.reads o (moved from (g.S.Source.left c.loop-self.source) (g.S.Source.faults c.loop-self.source)) to log refl refl (c.loop-self.invariant.stored o from to log was count s);
}

pub returns-in_err-read_group-clause-stops : goal.returns-in_err-read_group-clause-stops
returns-in_err-read_group-clause-stops g c = λ o from to log was count s.
    handed-on c.from_residual.result c.in_err-read_group.field-0.0
    (λ (status : Status). KeepsPromise status o (moved from (g.S.Source.left c.read_group.new.source) (g.S.Source.faults c.read_group.new.source)) to log) c.from_residual.ensures.1
    (c.in_err-read_group.ensures.stops o (moved from (g.S.Source.left c.loop-self.source) (g.S.Source.faults c.loop-self.source)) to log refl refl (c.loop-self.invariant.stored o from to log was count s))

pub returns-in_err-read_group-clause-no_cut : goal.returns-in_err-read_group-clause-no_cut
returns-in_err-read_group-clause-no_cut g c =
    handed-on c.from_residual.result c.in_err-read_group.field-0.0 (λ (status : Status). status ≢ Cut) c.from_residual.ensures.1 c.in_err-read_group.ensures.no_cut

pub returns-clause-reads : goal.returns-clause-reads
returns-clause-reads g c = λ o from to log was count s.
    all-read c.loop-self.self c.wants_bytes.result o (moved from (g.S.Source.left c.loop-self.source) (g.S.Source.faults c.loop-self.source)) to log c.loop-self-test.false c.wants_bytes.ensures
    (c.loop-self.invariant.stored o from to log was count s)
