use Rattle.std.proofs.Common.{◌≡◌, ℕ, Result, Option, None, sym, ◌∙◌, subst}
use Rattle.std.specs.Prelude.{IfOk}
use Rattle.smbd_base.specs.declared.no_memory.NoMemory.{NoMemory}
use Rattle.sim_adapter.specs.declared.view.EndView.{EndView}
use Rattle.link_ends.specs.Ends.{view_of}
use Rattle.end_shares.specs.declared.share.Share.{Share}
use Rattle.end_shares.specs.declared.share.Share.TheVariants as shares
use Rattle.end_shares.specs.Turns.{IsCutAsTold}
use Rattle.end_shares.specs.Clients.{ClientGoesOn}
use Rattle.end_shares.specs.Servers.{ServerGoesOn}
use Rattle.end_shares.specs.Shares.{ComesTo, rests}
use Rattle.end_rounds.proofs.Rounding.{client_met, server_met, linked, as_linked}
use Rattle.end_rounds.proofs.end_pair.EndPair.round.Goals as goal

pub returns-clause-client : goal.returns-clause-client
returns-clause-client g c = λ kind channel pages past h.
    let ran = c.run_ends-client_share.ensures.client in
    let n = c.run_ends-client_share.new.client in
    let left : Option ℕ = c.run_ends-client_share.new.left in
    let v : EndView = view_of c.args.self.now.client in
    let w : EndView = view_of c.run_ends-client_share.new.client_end in
    client_met kind channel pages past c.in_ok-client_share.field-0 left n v w (view_of c.meet.new.client) _ c.meet.ensures.client
    (subst (λ (r : Result Share NoMemory). IfOk r (λ share. ClientGoesOn kind channel pages past 64 (rests share) n w)) c.in_ok-client_share.was (ran.goes_on kind channel pages past h))
    (subst (λ (r : Result Share NoMemory). IfOk r (λ share. ComesTo share left v w)) c.in_ok-client_share.was ran.share)

pub returns-clause-server : goal.returns-clause-server
returns-clause-server g c = λ kind past h.
    let ran = c.run_ends-client_share.ensures.server in
    let n = c.run_ends-client_share.new.server in
    let v : EndView = view_of c.args.self.now.server in
    let w : EndView = view_of c.run_ends-client_share.new.server_end in
    server_met kind past c.in_ok-server_share.field-0 None n v w (view_of c.meet.new.server) _ c.meet.ensures.server
    (subst (λ (r : Result Share NoMemory). IfOk r (λ share. ServerGoesOn kind past (rests share) n w)) c.in_ok-server_share.was (ran.goes_on kind past h))
    (subst (λ (r : Result Share NoMemory). IfOk r (λ share. ComesTo share None v w)) c.in_ok-server_share.was ran.share)

pub returns-clause-linked : goal.returns-clause-linked
returns-clause-linked g c =
    let client = c.run_ends-client_share.ensures.client in
    let server = c.run_ends-client_share.ensures.server in
    let up = c.requires.up in
    let left : Option ℕ = c.run_ends-client_share.new.left in
    let u : EndView = view_of c.args.self.now.client in
    let v : EndView = view_of c.run_ends-client_share.new.client_end in
    let x : EndView = view_of c.run_ends-client_share.new.server_end in
    as_linked left _ (linked c.in_ok-client_share.field-0 left u v (view_of c.meet.new.client) x (view_of c.meet.new.server) _ _
    (subst (λ (r : Result Share NoMemory). IfOk r (λ share. ComesTo share left u v)) c.in_ok-client_share.was client.share)
    (λ other. subst (λ (r : Result Share NoMemory). IfOk r (λ share. (share ≡ shares.Cuts → ⊥) → IsCutAsTold u → IsCutAsTold v)) c.in_ok-client_share.was client.told other (up.client_untold ∙ sym up.client_uncut))
    (server.acted.told (up.server_untold ∙ sym up.server_uncut))
    c.meet.ensures.client c.meet.ensures.server c.meet.ensures.met)
