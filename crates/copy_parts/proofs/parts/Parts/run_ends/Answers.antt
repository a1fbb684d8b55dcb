use Rattle.copy_parts.specs.declared.parts.Parts.{Parts}
use Rattle.copy_parts.proofs.Running.{ClientRan, may-talk, may-serve, client-ran, server-ran, served-so, cut-so}
use Rattle.copy_parts.proofs.parts.Parts.run_ends.Goals as goal
use Rattle.copy_parts.proofs.parts.Parts.run_ends.Goals.{in-Cuts+in_ok-cut_link-in-Cuts, in-Full+in_ok-run_server-in-Full}

pub run_client-requires : goal.run_client-requires
run_client-requires c = may-talk c.args.self.now c.requires

pub run_server-requires : goal.run_server-requires
run_server-requires c =
    let a = c.args.self.now in
    let n = c.run_client.new.client in
    let v = c.run_client.new.world in
    let ran = c.in_ok-share in
    may-serve a n v c.run_client.new.left ran.share ran.ensures.up
    (λ o p s. client-ran o p a n v c.run_client.new.left ran.share ran.ensures.acted ran.ensures.up c.history.ensures.joint c.history.ensures.delivered ran.ensures.full ran.ensures.goes_on
    ran.ensures.left s)
    c.requires

pub returns : goal.returns
returns c = λ o p s.
    let a = c.args.self.now in
    let b : Parts = c.match-share.self in
    let n = c.run_client.new.client in
    let v = c.run_client.new.world in
    let left = c.run_client.new.left in
    let ran = c.in_ok-share in
    let x : ClientRan o p a n v left ran.share =
    client-ran o p a n v left ran.share ran.ensures.acted ran.ensures.up c.history.ensures.joint c.history.ensures.delivered ran.ensures.full ran.ensures.goes_on ran.ensures.left s in
    elim c.match-share.branch [
      | in-Cuts+in_ok-cut_link-in-Cuts w ↦ cut-so o p a b n v w.cut_link.new.world left ran.share w.self-is ran.ensures.acted (ran.ensures.cuts w.in-Cuts.is)
          w.in_ok-cut_link-in-Cuts.ensures s x c.history-2.ensures.joint c.history-2.ensures.delivered
      | in-Full+in_ok-run_server-in-Full w ↦ served-so o p a b n w.run_server.new.server v w.run_server.new.world left ran.share w.self-is ran.ensures.acted w.run_server.ensures.acted x
          (λ joint delivered. server-ran o _ a.server w.run_server.new.server v w.run_server.new.world a.crew w.in_ok-run_server-in-Full.field-0 w.run_server.ensures.acted
          w.in_ok-run_server-in-Full.ensures.up joint delivered w.in_ok-run_server-in-Full.ensures.full w.in_ok-run_server-in-Full.ensures.goes_on x.under_way s.server)
          w.in-Full.is c.history-2.ensures.joint c.history-2.ensures.delivered
    ]
