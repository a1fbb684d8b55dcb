-- What copies of the three bytes `abc` do with registered pages, worked out, and what no copy does.
use Rattle.std.specs.Prelude.{ℕ, List, [], ◌∷◌, ◌++◌, codes, replicate}
use Rattle.smbd_base.specs.declared.right.Right.TheVariants as right
use Rattle.smbd_base.specs.declared.page_event.PageEvent.{PageEvent}
use Rattle.smbd_base.specs.declared.page_event.PageEvent.TheVariants.{Load, Fetch, Place, Unload}
use Rattle.smbd_base.specs.Tokens.{PageToken}
use Rattle.file_messages.specs.declared.kind.Channel.TheVariants as channels
use Rattle.file_messages.specs.declared.message.Request.{Request}
use Rattle.file_messages.specs.Runs.{write_of, read_of}
use Rattle.copy_laws.specs.PagesOfCopies.{AreInTurn, PutsUsePages, GetsUsePages}

-- the first load of page 0
abbrev pub token : PageToken
token = record { page = 0; generation = 1 }

abbrev pub abc : List ℕ
abc = codes "abc"

abbrev pub page : List ℕ
page = abc ++ replicate 4093 0

-- ---- a put over 64 pages: the one WRITE names page 0

abbrev pub groups : List (List ℕ)
groups = abc ∷ []

abbrev pub write : Request
write = write_of channels.V1 4 1 0 abc

abbrev pub load : PageEvent
load = Load token right.Fetch abc

abbrev pub fetch : PageEvent
fetch = Fetch token 0 abc

abbrev pub unload : PageEvent
unload = Unload token page

-- one worker at each end did this
abbrev pub PutDoes : List Request → List Request → List PageEvent → List PageEvent → Type 0
PutDoes answered heard client server = PutsUsePages 4 groups (write ∷ []) answered heard (client ∷ []) (server ∷ [])

pub record PutsDo : Type 0 where
  pub loaded : PutDoes [] [] (load ∷ []) []
  pub fetched : PutDoes (write ∷ []) [] (load ∷ []) (fetch ∷ [])
  pub over : PutDoes (write ∷ []) (write ∷ []) (unload ∷ load ∷ []) (fetch ∷ [])

pub record PutsDont : Type 0 where
  pub not_loaded : PutDoes [] [] [] [] → ⊥
  pub other_bytes : PutDoes [] [] (Load token right.Fetch (codes "abd") ∷ []) [] → ⊥
  pub other_right : PutDoes [] [] (Load token right.Place abc ∷ []) [] → ⊥
  pub not_fetched : PutDoes (write ∷ []) [] (load ∷ []) [] → ⊥
  pub fetched_twice : PutDoes [] [] (load ∷ []) (fetch ∷ fetch ∷ []) → ⊥
  pub fetched_late : PutDoes [] [] (load ∷ []) (Fetch token 1 (codes "bc") ∷ []) → ⊥
  pub fetched_by_client : PutDoes [] [] (fetch ∷ load ∷ []) [] → ⊥
  pub loaded_by_server : PutDoes [] [] (load ∷ []) (load ∷ []) → ⊥
  pub unloaded_unheard : PutDoes (write ∷ []) [] (unload ∷ load ∷ []) (fetch ∷ []) → ⊥

-- ---- a get of three bytes: its READ names pages 0 to 15

abbrev pub read : Request
read = read_of channels.V1 1

abbrev pub lends : PageEvent
lends = Load token right.Place (replicate 4096 0)

abbrev pub place : PageEvent
place = Place token 0 0 abc

abbrev pub GetDoes : List Request → List Request → List Request → List PageEvent → List PageEvent → Type 0
GetDoes asked answered heard client server = GetsUsePages abc asked answered heard (client ∷ []) (server ∷ [])

pub record GetsDo : Type 0 where
  pub loads : GetDoes [] [] [] (lends ∷ []) []
  pub places : GetDoes [] [] [] (lends ∷ []) (place ∷ [])
  pub over : GetDoes [] [] (read ∷ []) (unload ∷ lends ∷ []) (place ∷ [])

pub record GetsDont : Type 0 where
  pub not_loaded : GetDoes (read ∷ []) [] [] [] [] → ⊥
  pub not_zeros : GetDoes [] [] [] (Load token right.Place abc ∷ []) [] → ⊥
  pub other_right : GetDoes [] [] [] (Load token right.Fetch (replicate 4096 0) ∷ []) [] → ⊥
  pub page_16 : GetDoes [] [] [] (Load (record { page = 16; generation = 1 }) right.Place (replicate 4096 0) ∷ []) [] → ⊥
  pub not_placed : GetDoes [] (read ∷ []) [] (lends ∷ []) [] → ⊥
  pub placed_twice : GetDoes [] [] [] (lends ∷ []) (place ∷ place ∷ []) → ⊥
  pub second_order : GetDoes [] [] [] (lends ∷ []) (Place token 1 0 abc ∷ []) → ⊥
  pub placed_late : GetDoes [] [] [] (lends ∷ []) (Place token 0 1 abc ∷ []) → ⊥
  pub other_bytes : GetDoes [] [] [] (lends ∷ []) (Place token 0 0 (codes "abd") ∷ []) → ⊥
  pub nothing : GetDoes [] [] [] (lends ∷ []) (Place (record { page = 1; generation = 1 }) 0 0 [] ∷ []) → ⊥
  pub unloaded_unheard : GetDoes [] [] [] (unload ∷ lends ∷ []) (place ∷ []) → ⊥

-- ---- whose events they are, of two workers

pub record TurnsSo : Type 0 where
  pub own : AreInTurn 2 ((load ∷ []) ∷ [] ∷ [])
  pub other : AreInTurn 2 ([] ∷ (load ∷ []) ∷ []) → ⊥
