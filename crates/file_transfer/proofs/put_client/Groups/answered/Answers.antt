use Rattle.std.proofs.Common.{length, ap, arith}
use Rattle.file_transfer.proofs.PutRegisteredLemmas.{kept-first, length-pages}
use Rattle.file_transfer.proofs.PutClientLemmas.{as_inline, as_registered, inline-replied}
use Rattle.file_transfer.proofs.put_client.Groups.answered.Goals as goal

pub unload-requires : goal.unload-requires
unload-requires c =
    let q = c.requires in
    let r = as_registered q.setup q.past c.args.self.now c.in-Registered.groups q.came c.in-Registered.is in
    omega (arith, kept-first q.setup.windows q.past c.in-Registered.groups r.stands, ap length q.named, length-pages c.args.pages.now)

pub returns-in-Inline : goal.returns-in-Inline
returns-in-Inline c = λ s past message came taken named.
    let i = as_inline s past c.args.self.now c.in-Inline._groups came c.in-Inline.is in
    record { setup = i.setup; stands = inline-replied past message c.in-Inline._groups i.stands }

pub returns-in-Registered : goal.returns-in-Registered
returns-in-Registered c = λ s past message came taken named.
    let r = as_registered s past c.args.self.now c.in-Registered.groups came c.in-Registered.is in
    record { setup = r.setup; stands = c.unload.ensures s.windows past message r.stands taken named }
