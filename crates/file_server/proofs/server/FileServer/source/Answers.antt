use Rattle.std.proofs.Common.{◌∙◌, drop, arith, refl}
use Rattle.file_server.proofs.ServerFilled.{came-filled, wanted-still, unwanted, most-wanted}
use Rattle.file_server.proofs.server.FileServer.source.Goals as goal

pub fill-requires-clause-short : goal.fill-requires-clause-short
fill-requires-clause-short c =
    omega (arith, c.requires.short, (most-wanted c.requires.kind c.requires.past c.args.self.now c.in-Some.request.now (drop 1 c.args.self.now.waiting.items) c.requires.most c.requires.came c.in-Some.ensures.some c.requires.wanted).0)

pub fill-requires-clause-op : goal.fill-requires-clause-op
fill-requires-clause-op c =
    (most-wanted c.requires.kind c.requires.past c.args.self.now c.in-Some.request.now (drop 1 c.args.self.now.waiting.items) c.requires.most c.requires.came c.in-Some.ensures.some c.requires.wanted).1

pub returns-in_ok-fill-clause-filled : goal.returns-in_ok-fill-clause-filled
returns-in_ok-fill-clause-filled c = λ kind past came.
    came-filled kind past c.args.self.now c.in-Some.request.now (drop 1 c.args.self.now.waiting.items) c.requires.most c.args.bytes.now c.fill.new.self came c.in-Some.ensures.some
    (wanted-still kind c.requires.kind past c.requires.past c.args.self.now c.in-Some.request.now (drop 1 c.args.self.now.waiting.items) came c.requires.came c.in-Some.ensures.some ∙ c.requires.wanted)
    c.requires.short c.fill.ensures.first c.in_ok-fill.ensures.due c.in_ok-fill.ensures.outcomes c.in_ok-fill.ensures.filled c.fill.ensures.room

pub returns-in_default-clause-filled : goal.returns-in_default-clause-filled
returns-in_default-clause-filled c = λ kind past came.
    unwanted c.requires.kind c.requires.past c.args.self.now c.requires.most c.requires.came (c.in_default.ensures.none refl) c.requires.wanted
