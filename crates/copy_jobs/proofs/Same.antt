-- What is left as it was.
use Rattle.std.proofs.Common.{◌≡◌, List, ap, ◌∙◌}
use Rattle.smbd_base.specs.declared.end_id.EndId.{EndId}
use Rattle.smbd_base.specs.declared.end_id.EndId.TheVariants.{Client, Server}
use Rattle.page_workers.specs.Workers.{WorkerState}
use Rattle.page_crew.specs.Crews.{CrewState, workers_of, with_workers, lines_of}
use Rattle.copy_jobs.specs.Jobs.{IsSameBut}

-- the workers of an end that are put in last stay
last-stay : (end : EndId) (ws : List WorkerState) (a b : CrewState) → b ≡ with_workers end (workers_of end b) a → with_workers end ws b ≡ with_workers end ws a
last-stay Client ws a b e = ap (λ (x : CrewState). record x { clients = ws }) e
last-stay Server ws a b e = ap (λ (x : CrewState). record x { servers = ws }) e

pub same-on : (end : EndId) (a b c : CrewState) → IsSameBut end a b → c ≡ with_workers end (workers_of end c) b → lines_of (workers_of end c) ≡ lines_of (workers_of end b)
    → IsSameBut end a c
same-on end a b c s others lines = record { others = others ∙ last-stay end (workers_of end c) a b s.others; lines = lines ∙ s.lines }
