-- Worked lives of pages: which steps a page allows, at the bounds of each, and what a pool's step changes. A past is a
-- list, the newest event first.
use Rattle.std.specs.Prelude.{◌≡◌, ℕ, Some, None, List, [], ◌∷◌, ◌++◌, replicate}
use Rattle.smbd_base.specs.declared.right.Right.{Right}
use Rattle.smbd_base.specs.declared.right.Right.TheVariants as right
use Rattle.smbd_base.specs.declared.page_event.PageEvent.TheVariants.{Load, Fetch, Place, Unload}
use Rattle.smbd_base.specs.Tokens.{PageToken, IsToken, number_of, token_of}
use Rattle.smbd_base.specs.Pages.{Entry, PageState, IsPageStep, IsPageLife, IsPoolStep, page_state, page_after, opened_page, whole_page}

abbrev pub token : ℕ → ℕ → PageToken
token page generation = record { page = page; generation = generation }

-- ---- tokens

pub record TokensSo : Type 0 where
  -- the first load of page 0, and the last of page 255
  pub first : token_of 256 ≡ Some (token 0 1)
  pub last : token_of 4294967295 ≡ Some (token 255 16777215)
  pub fifth : number_of (token 5 1) ≡ 261
  pub last_number : number_of (token 255 16777215) ≡ 4294967295
  pub none : token_of 255 ≡ None
  pub lawful_first : IsToken (token 0 1)
  pub lawful_last : IsToken (token 255 16777215)
  -- numbers past the bounds
  pub page : IsToken (token 256 1) → ⊥
  pub least : IsToken (token 0 0) → ⊥
  pub most : IsToken (token 0 16777216) → ⊥

-- ---- lives

-- page 5 of a pool with first generation 1: pass 0 loads `abc` for places, pass 1 places an `x` at 1, and pass 0 gets `axc`
abbrev pub placed_once : List Entry
placed_once =
    (record { pass = 0; event = Unload (token 5 1) (97 ∷ 120 ∷ 99 ∷ replicate 4093 0) })
    ∷ (record { pass = 1; event = Place (token 5 1) 0 1 (120 ∷ []) })
    ∷ (record { pass = 0; event = Load (token 5 1) right.Place (97 ∷ 98 ∷ 99 ∷ []) })
    ∷ []

-- a page of a pool with first generation 16,777,214, loaded, unloaded and loaded again
abbrev pub loaded_twice : ℕ → List ℕ → List Entry
loaded_twice page bytes =
    (record { pass = 0; event = Load (token page 16777215) right.Fetch bytes })
    ∷ (record { pass = 0; event = Unload (token page 16777214) bytes })
    ∷ (record { pass = 0; event = Load (token page 16777214) right.Fetch bytes })
    ∷ []

pub record LiveSo : Type 0 where
  pub none : IsPageLife 1 5 []
  pub placed : IsPageLife 1 5 placed_once
  -- the life of another page; and a life that begins with another generation than the pool's first
  pub other_page : IsPageLife 1 6 placed_once → ⊥
  pub other_first : IsPageLife 2 5 placed_once → ⊥
  -- after the last generation no token can be loaded
  pub spent : (page : ℕ) (bytes more : List ℕ) (t : PageToken) → IsToken t
      → IsPageStep (Load t right.Fetch more) (record { generation = (page_state 16777214 (loaded_twice page bytes)).generation; loaded = None }) → ⊥

-- ---- steps

-- page 5 in its third load, with 4,096 sevens and after so many places
abbrev pub sevens : List ℕ
sevens = replicate 4096 7

abbrev pub in_use : Right → ℕ → PageState
in_use right places = record { generation = 3; loaded = Some (record { right = right; content = sevens; places = places }) }

-- the same page after it was unloaded
abbrev pub given_back : PageState
given_back = record { generation = 3; loaded = None }

-- what a page allows, up to each bound
pub record StepSo : Type 0 where
  pub loads_none : IsPageStep (Load (token 5 4) right.Fetch []) given_back
  pub loads_all : IsPageStep (Load (token 5 4) right.Place sevens) given_back
  pub fetches_none : IsPageStep (Fetch (token 5 3) 4096 []) (in_use right.Fetch 0)
  pub fetches_last : IsPageStep (Fetch (token 5 3) 4095 (7 ∷ [])) (in_use right.Fetch 0)
  pub fetches_all : IsPageStep (Fetch (token 5 3) 0 sevens) (in_use right.Fetch 0)
  pub places_last : IsPageStep (Place (token 5 3) 0 4095 (8 ∷ [])) (in_use right.Place 0)
  pub places_all : IsPageStep (Place (token 5 3) 1 0 sevens) (in_use right.Place 1)
  pub last_place : IsPageStep (Place (token 5 3) 65534 0 (8 ∷ [])) (in_use right.Place 65534)
  pub unloads : IsPageStep (Unload (token 5 3) sevens) (in_use right.Place 2)
  -- what a load and a place leave
  pub filled_up : whole_page (97 ∷ []) ≡ 97 ∷ replicate 4095 0
  pub placed : page_after (Place (token 5 3) 0 4095 (8 ∷ [])) (in_use right.Place 0)
      ≡ record { generation = 3; loaded = Some (record { right = right.Place; content = replicate 4095 7 ++ 8 ∷ []; places = 1 }) }

-- what it does not allow, each wrong in one thing
pub record StepNotSo : Type 0 where
  -- a load of a page that is loaded, of the same generation or the one after the next, or of 4,097 bytes
  pub loads_loaded : IsPageStep (Load (token 5 4) right.Fetch []) (in_use right.Fetch 0) → ⊥
  pub loads_again : IsPageStep (Load (token 5 3) right.Fetch []) given_back → ⊥
  pub loads_later : IsPageStep (Load (token 5 5) right.Fetch []) given_back → ⊥
  pub loads_more : IsPageStep (Load (token 5 4) right.Fetch (7 ∷ sevens)) given_back → ⊥
  -- a fetch of a page that is not loaded, under an older token or the right to place, past the end, or of other bytes
  pub fetches_unloaded : IsPageStep (Fetch (token 5 3) 0 (7 ∷ [])) given_back → ⊥
  pub fetches_stale : IsPageStep (Fetch (token 5 2) 0 (7 ∷ [])) (in_use right.Fetch 0) → ⊥
  pub fetches_to_place : IsPageStep (Fetch (token 5 3) 0 (7 ∷ [])) (in_use right.Place 0) → ⊥
  pub fetches_past : IsPageStep (Fetch (token 5 3) 4097 []) (in_use right.Fetch 0) → ⊥
  pub fetches_other : IsPageStep (Fetch (token 5 3) 0 (8 ∷ [])) (in_use right.Fetch 0) → ⊥
  -- a place in a page that is not loaded, under an older token or the right to fetch, of an order that was had or of a
  -- later one, past the end, or after 65,535 places
  pub places_unloaded : IsPageStep (Place (token 5 3) 0 0 (8 ∷ [])) given_back → ⊥
  pub places_stale : IsPageStep (Place (token 5 2) 0 0 (8 ∷ [])) (in_use right.Place 0) → ⊥
  pub places_to_fetch : IsPageStep (Place (token 5 3) 0 0 (8 ∷ [])) (in_use right.Fetch 0) → ⊥
  pub places_again : IsPageStep (Place (token 5 3) 0 0 (8 ∷ [])) (in_use right.Place 1) → ⊥
  pub places_later : IsPageStep (Place (token 5 3) 2 0 (8 ∷ [])) (in_use right.Place 1) → ⊥
  pub places_past : IsPageStep (Place (token 5 3) 0 4096 (8 ∷ [])) (in_use right.Place 0) → ⊥
  pub places_worn : IsPageStep (Place (token 5 3) 65535 0 (8 ∷ [])) (in_use right.Place 65535) → ⊥
  -- an unload of a page that is not loaded, under an older token, or of other bytes
  pub unloads_unloaded : IsPageStep (Unload (token 5 3) sevens) given_back → ⊥
  pub unloads_stale : IsPageStep (Unload (token 5 2) sevens) (in_use right.Place 0) → ⊥
  pub unloads_less : IsPageStep (Unload (token 5 3) (replicate 4095 7)) (in_use right.Place 0) → ⊥

-- ---- pools

-- two pages before their first load, and with the second one loaded
abbrev pub two_opened : List PageState
two_opened = replicate 2 (opened_page 1)

abbrev pub second_loaded : PageState
second_loaded = record { generation = 1; loaded = Some (record { right = right.Fetch; content = 97 ∷ replicate 4095 0; places = 0 }) }

pub record PoolStepSo : Type 0 where
  pub loads : IsPoolStep (Load (token 1 1) right.Fetch (97 ∷ [])) two_opened (opened_page 1 ∷ second_loaded ∷ [])
  -- a page that the pool does not have; a step that the page does not allow; another page that changes; no change
  pub no_page : IsPoolStep (Load (token 2 1) right.Fetch (97 ∷ [])) two_opened two_opened → ⊥
  pub no_step : IsPoolStep (Load (token 1 2) right.Fetch (97 ∷ [])) two_opened
      (opened_page 1 ∷ (record second_loaded { generation = 2 }) ∷ []) → ⊥
  pub both_change : IsPoolStep (Load (token 1 1) right.Fetch (97 ∷ [])) two_opened (second_loaded ∷ second_loaded ∷ []) → ⊥
  pub none_changes : IsPoolStep (Load (token 1 1) right.Fetch (97 ∷ [])) two_opened two_opened → ⊥
