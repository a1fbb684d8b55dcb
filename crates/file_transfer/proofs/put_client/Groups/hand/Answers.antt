use Rattle.std.proofs.Common.{◌∷◌, subst, arith}
use Rattle.file_pasts.specs.ClientPast.{Group}
use Rattle.file_pasts.specs.PutDue.{Setup, Follows}
use Rattle.file_pasts.proofs.PutLaw.{wants_parts}
use Rattle.file_pasts.proofs.Naming.{in_turn}
use Rattle.file_transfer.specs.PutInlineStands.{InlineStands}
use Rattle.file_transfer.specs.PutRegisteredStands.{RegisteredStand}
use Rattle.file_transfer.proofs.PutInlineLemmas.{on_ok-map}
use Rattle.file_transfer.proofs.PutClientLemmas.{as_inline, as_registered, inline-fits}
use Rattle.file_transfer.proofs.put_client.Groups.hand.Goals as goal

pub hand-requires-clause-counted : goal.hand-requires-clause-counted
hand-requires-clause-counted c =
    let q = c.requires in
    let i = as_inline q.setup q.past c.args.self.now c.in-Inline.groups q.came c.in-Inline.is in
    omega (arith, i.stands.count, (inline-fits q.setup q.past i.setup q.lawful q.follows.0 q.few).0)

pub hand-requires-clause-fits : goal.hand-requires-clause-fits
hand-requires-clause-fits c =
    let q = c.requires in
    let i = as_inline q.setup q.past c.args.self.now c.in-Inline.groups q.came c.in-Inline.is in
    omega (arith, i.stands.bytes, (inline-fits q.setup q.past i.setup q.lawful q.follows.0 q.few).1)

pub hand-requires-in-Registered : goal.hand-requires-in-Registered
hand-requires-in-Registered c =
    let q = c.requires in
    let r = as_registered q.setup q.past c.args.self.now c.in-Registered.groups q.came c.in-Registered.is in
    record {
      windows = q.setup.windows;
      past = q.past;
      stands = r.stands;
      few = q.few;
      follows = subst (λ (t : Setup). Follows t (Group c.args.bytes.now) q.past) r.setup q.follows;
    }

pub returns-in-Inline-clause-handed : goal.returns-in-Inline-clause-handed
returns-in-Inline-clause-handed c = λ s past came p f.
    let i = as_inline s past c.args.self.now c.in-Inline.groups came c.in-Inline.is in
    on_ok-map c.hand.result (λ (x : InlineStands (Group c.args.bytes.now ∷ past) c.hand.new.self). record { setup = i.setup; stands = x })
    (c.hand.ensures.taken past i.stands ((in_turn s past p).1 (wants_parts s past f.0).0))

pub returns-in-Registered-clause-handed : goal.returns-in-Registered-clause-handed
returns-in-Registered-clause-handed c = λ s past came p f.
    let r = as_registered s past c.args.self.now c.in-Registered.groups came c.in-Registered.is in
    on_ok-map c.hand-in-Registered.result (λ (x : RegisteredStand s.windows (Group c.args.bytes.now ∷ past) c.hand-in-Registered.new.self). record { setup = r.setup; stands = x })
    (c.hand-in-Registered.ensures.taken s.windows past r.stands (subst (λ (t : Setup). Follows t (Group c.args.bytes.now) past) r.setup f))
