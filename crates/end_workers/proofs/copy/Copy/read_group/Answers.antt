use Rattle.std.proofs.Common.{◌≢◌, List, ℕ, sym, subst, arith}
use Rattle.smbd_outside.specs.declared.status.Status.{Status}
use Rattle.smbd_outside.specs.declared.status.Status.TheVariants.{Cut}
use Rattle.end_workers.specs.Progress.{moved}
use Rattle.end_workers.specs.Promise.{KeepsPromise}
use Rattle.end_workers.proofs.HandedOn.{handed-on}
use Rattle.end_workers.proofs.BytesRead.{IsNext, Takes, whole-before, may-take, bytes-on, bytes-fewer, bytes-stored, given-of, not-cut, reading-stops, taking-stops}
use Rattle.end_workers.proofs.copy.Copy.read_group.Goals as goal

pub read_next-requires-clause-groups : goal.read_next-requires-clause-groups
read_next-requires-clause-groups g c = whole-before c.args.self.now c.requires.on c.requires.wanted

pub returns-in_err-ended-clause-stops : goal.returns-in_err-ended-clause-stops
returns-in_err-ended-clause-stops g c = λ o from to log was count s.
    handed-on c.from_residual.result c.in_err-ended.field-0.0 (λ (status : Status). KeepsPromise status o (moved from (g.S.Source.left c.read_next.new.source) (g.S.Source.faults c.read_next.new.source)) to log)
    c.from_residual.ensures.1
    (reading-stops c.args.self.now o from to log (g.S.Source.left c.args.source.now) (g.S.Source.left c.read_next.new.source) (g.S.Source.faults c.args.source.now)
    (g.S.Source.faults c.read_next.new.source) c.in_err-ended.field-0.0 c.read_next.new.bytes.items c.requires.on c.requires.wanted was count s c.read_next.ensures.read
    c.in_err-ended.ensures.few c.in_err-ended.ensures.stops)

pub returns-in_err-ended-clause-no_cut : goal.returns-in_err-ended-clause-no_cut
returns-in_err-ended-clause-no_cut g c =
    handed-on c.from_residual.result c.in_err-ended.field-0.0 (λ (status : Status). status ≢ Cut) c.from_residual.ensures.1
    (not-cut c.in_err-ended.field-0.0 c.args.self.now.read _ _ _ c.in_err-ended.ensures.stops)

pub take_bytes-requires : goal.take_bytes-requires
take_bytes-requires g c =
    may-take c.args.self.now c.deref.result.now c.in_ok-ended.ended c.requires.on c.requires.wanted
    (subst (λ (bytes : List ℕ). IsNext c.args.self.now.read bytes c.in_ok-ended.ended) (sym c.deref.ensures.value)
    (record { short = c.in_ok-ended.ensures.short; whole = c.in_ok-ended.ensures.whole; part = c.in_ok-ended.ensures.part }))

pub returns-in-Ok-clause-on : goal.returns-in-Ok-clause-on
returns-in-Ok-clause-on g c =
    bytes-on c.args.self.now c.take_bytes.new.self c.read_next.new.bytes c.read_next.new.bytes.items c.len.result c.in_ok-ended.ended c.requires.on c.requires.wanted
    (record { short = c.in_ok-ended.ensures.short; whole = c.in_ok-ended.ensures.whole; part = c.in_ok-ended.ensures.part })
    (subst (λ (bytes : List ℕ). Takes c.args.self.now bytes c.in_ok-ended.ended c.take_bytes.new.self) c.deref.ensures.value c.in-Ok.ensures)
    (omega (arith, c.len.ensures, c.read_next.new.bytes.ok.0)) c.read_next.ensures.room

pub returns-in-Ok-clause-reads : goal.returns-in-Ok-clause-reads
returns-in-Ok-clause-reads g c = λ o from to log was count s.
    bytes-stored c.args.self.now c.take_bytes.new.self c.read_next.new.bytes c.read_next.new.bytes.items c.len.result c.in_ok-ended.ended o from to log
    (g.S.Source.left c.read_next.new.source) (g.S.Source.faults c.read_next.new.source) c.requires.on c.requires.wanted
    (record { short = c.in_ok-ended.ensures.short; whole = c.in_ok-ended.ensures.whole; part = c.in_ok-ended.ensures.part })
    (subst (λ (bytes : List ℕ). Takes c.args.self.now bytes c.in_ok-ended.ended c.take_bytes.new.self) c.deref.ensures.value c.in-Ok.ensures)
    (omega (arith, c.len.ensures, c.read_next.new.bytes.ok.0)) c.read_next.ensures.room
    (given-of from (g.S.Source.left c.args.source.now) (g.S.Source.left c.read_next.new.source) (g.S.Source.faults c.args.source.now) (g.S.Source.faults c.read_next.new.source)
    c.read_next.new.bytes.items c.in_ok-ended.ended was count c.read_next.ensures.read c.in_ok-ended.ensures.last c.read_next.ensures.later) s

pub returns-in-Ok-clause-fewer : goal.returns-in-Ok-clause-fewer
returns-in-Ok-clause-fewer g c =
    bytes-fewer c.args.self.now c.take_bytes.new.self c.read_next.new.bytes c.read_next.new.bytes.items c.len.result c.in_ok-ended.ended c.requires.on c.requires.wanted
    (record { short = c.in_ok-ended.ensures.short; whole = c.in_ok-ended.ensures.whole; part = c.in_ok-ended.ensures.part })
    (omega (arith, c.len.ensures, c.read_next.new.bytes.ok.0))

pub returns-in-Err-clause-stops : goal.returns-in-Err-clause-stops
returns-in-Err-clause-stops g c = λ o from to log was count s.
    taking-stops c.args.self.now c.read_next.new.bytes.items c.in_ok-ended.ended o from to log (g.S.Source.left c.read_next.new.source) (g.S.Source.faults c.read_next.new.source)
    c.requires.wanted (record { short = c.in_ok-ended.ensures.short; whole = c.in_ok-ended.ensures.whole; part = c.in_ok-ended.ensures.part })
    (given-of from (g.S.Source.left c.args.source.now) (g.S.Source.left c.read_next.new.source) (g.S.Source.faults c.args.source.now) (g.S.Source.faults c.read_next.new.source)
    c.read_next.new.bytes.items c.in_ok-ended.ended was count c.read_next.ensures.read c.in_ok-ended.ensures.last c.read_next.ensures.later) s
