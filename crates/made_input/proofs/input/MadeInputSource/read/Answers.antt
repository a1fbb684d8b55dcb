use Rattle.std.proofs.Common.{ap, ◌++◌, drop, List, ℕ, arith}
use Rattle.made_input.proofs.MadeLemmas.{gives, leaves, ended, left-long}
use Rattle.made_input.proofs.input.MadeInputSource.read.Goals as goal

pub returns-clause-bytes : goal.returns-clause-bytes
returns-clause-bytes c =
    let s = c.self.inside in
    let n = c.min-count.result in
    let left = c.args.self.now in
    let buf = c.args.buf.now in (
      leaves s.first s.length s.given n left c.make.new.room buf c.self.view_is c.self.invariant c.min-count.ensures c.make.ensures,
      ended s.first s.length s.given n left c.make.new.room buf c.self.view_is c.self.invariant c.min-count.ensures c.make.ensures,
    )

pub returns-clause-given : goal.returns-clause-given
returns-clause-given c =
    let s = c.self.inside in
    let n = c.min-count.result in
    ap (λ (xs : List ℕ). xs ++ drop n c.args.buf.now)
    (gives s.first s.length s.given n c.args.self.now c.make.new.room c.args.buf.now c.self.view_is c.self.invariant c.min-count.ensures c.make.ensures)

pub returns-clause-count : goal.returns-clause-count
returns-clause-count c =
    let s = c.self.inside in
    let long = left-long s.first s.length s.given c.min-count.result c.args.self.now c.make.new.room c.args.buf.now c.self.view_is c.self.invariant c.min-count.ensures c.make.ensures in
    omega (arith, long, c.min-count.ensures)
