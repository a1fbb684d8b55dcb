-- Lines that read and texts that do not, worked out.
use Rattle.std.specs.Prelude.{◌≡◌, ℕ, List, [], ◌∷◌, codes, replicate, Result, Ok, Err}
use Rattle.smbd_base.specs.declared.right.Right.TheVariants as rights
use Rattle.smbd_base.specs.declared.page_event.PageEvent.{PageEvent}
use Rattle.smbd_base.specs.declared.page_event.PageEvent.TheVariants as pages
use Rattle.smbd_base.specs.Tokens.{PageToken}
use Rattle.event_log.specs.Lines.{line_text, logged_page}
use Rattle.event_log.specs.declared.side.Side.{Side}
use Rattle.event_log.specs.declared.side.Side.TheVariants.{C, S, Cw, Sw}
use Rattle.event_log.specs.declared.log_line.LogLine.{LogLine}
use Rattle.event_log.specs.declared.log_line.LogLine.TheVariants.{Post, Submit, Emit, Take, Cut, Load, Fetch, Place, Unload}
use Rattle.event_log.specs.declared.fault.LineFault.{LineFault}
use Rattle.event_log.specs.declared.fault.LineFault.TheVariants as faults

-- a text, and what it says
abbrev pub ReadsText : Type 0
ReadsText = List ℕ × Result (Side × LogLine) LineFault

abbrev pub worked_lines : List ReadsText
worked_lines =
    (codes "C take 1 20", Ok (C, Take 1 20))
    ∷ (codes "S post 255", Ok (S, Post 255))
    ∷ (codes "C submit 24", Ok (C, Submit 24))
    ∷ (codes "C emit 0102", Ok (C, Emit (1 ∷ 2 ∷ [])))
    ∷ (codes "S cut", Ok (S, Cut))
    ∷ (codes "S2 load 257 fetch 4096", Ok (Sw 2, Load (record { page = 1; generation = 1 }) rights.Fetch 4096))
    ∷ (codes "C8 fetch 256 4095 1", Ok (Cw 8, Fetch (record { page = 0; generation = 1 }) 4095 1))
    ∷ (codes "C1 place 256 65534 0 1", Ok (Cw 1, Place (record { page = 0; generation = 1 }) 65534 0 1))
    ∷ (codes "C1 unload 256", Ok (Cw 1, Unload (record { page = 0; generation = 1 })))
    ∷ []

abbrev pub worked_faults : List ReadsText
worked_faults =
    (codes "", Err faults.Side)
    ∷ (codes "X cut", Err faults.Side)
    ∷ (codes "C9 unload 256", Err faults.Side)
    ∷ (codes "C fly", Err faults.Word)
    ∷ (codes "C  post 1", Err faults.Word)
    ∷ (codes "C1 post 1", Err faults.Word)
    ∷ (codes "C post 256", Err faults.Number)
    ∷ (codes "C post 01", Err faults.Number)
    ∷ (codes "C take 0 20", Err faults.Number)
    ∷ (codes "C cut ", Err faults.Number)
    ∷ (codes "C emit", Err faults.Number)
    ∷ (codes "C emit 00 00", Err faults.Number)
    ∷ (codes "S2 load 257 write 1", Err faults.Number)
    ∷ (codes "C1 place 256 65535 0 1", Err faults.Number)
    ∷ (codes "C emit ", Err faults.Hex)
    ∷ (codes "C emit 0", Err faults.Hex)
    ∷ (codes "C emit 0g", Err faults.Hex)
    ∷ (codes "C emit 0A", Err faults.Hex)
    ∷ []

-- the token of the first load of page 0, whose number is 256
abbrev pub first_token : PageToken
first_token = record { page = 0; generation = 1 }

-- an event of a page of a worker, and its line
pub record TellsPages : Type 0 where
  pub load : line_text (Cw 1) (logged_page (pages.Load first_token rights.Fetch (codes "abc"))) ≡ codes "C1 load 256 fetch 3"
  pub place_load : line_text (Cw 2) (logged_page (pages.Load first_token rights.Place (replicate 4096 0))) ≡ codes "C2 load 256 place 4096"
  pub fetch : line_text (Sw 1) (logged_page (pages.Fetch first_token 0 (codes "abc"))) ≡ codes "S1 fetch 256 0 3"
  pub place : line_text (Sw 8) (logged_page (pages.Place first_token 2 4095 (codes "a"))) ≡ codes "S8 place 256 2 4095 1"
  pub unload : line_text (Cw 1) (logged_page (pages.Unload first_token (replicate 4096 7))) ≡ codes "C1 unload 256"
