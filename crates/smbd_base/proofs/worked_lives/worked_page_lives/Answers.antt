use Rattle.std.proofs.Common.{◌≡◌, ℕ, ◌≤◌, Some, List, length, refl, ap, slice_index_or, lit≤, lit<, arith}
use Rattle.smbd_base.specs.Pages.{LoadedPage, PageState, whole_page, part_of, page_at}
use Rattle.smbd_base.proofs.worked_lives.worked_page_lives.Goals as goal

pub returns-clause-tokens : goal.returns-clause-tokens
returns-clause-tokens c = record {
  first = refl;
  last = refl;
  fifth = refl;
  last_number = refl;
  none = refl;
  lawful_first = record { page = lit< tt; least = lit≤ tt; most = lit≤ tt };
  lawful_last = record { page = lit< tt; least = lit≤ tt; most = lit≤ tt };
  page = λ t. let h = t.page in omega arith;
  least = λ t. let h = t.least in omega arith;
  most = λ t. let h = t.most in omega arith;
}

pub returns-clause-lives : goal.returns-clause-lives
unfolding whole_page
returns-clause-lives c = record {
  none = tt;
  placed = (
    refl,
    record { page = _; loaded = record { now = refl; under = refl }; same = refl },
    (
      refl,
      record { page = _; loaded = record { now = refl; under = refl }; allowed = refl; next = refl; most = lit≤ tt; within = lit≤ tt },
      (refl, record { unloaded = refl; next = refl; fits = lit≤ tt }, tt),
    ),
  );
  other_page = λ life. let e : ◌≡◌ {A = ℕ} 5 6 = life.0 in omega arith;
  other_first = λ life. let e : ◌≡◌ {A = ℕ} 1 2 = life.2.2.1.next in omega arith;
  spent = λ page bytes more t lawful step. let most = lawful.most in let next = step.next in omega arith;
}

pub returns-clause-steps : goal.returns-clause-steps
unfolding whole_page
returns-clause-steps c = record {
  loads_none = record { unloaded = refl; next = refl; fits = lit≤ tt };
  loads_all = record { unloaded = refl; next = refl; fits = lit≤ tt };
  fetches_none = record { page = _; loaded = record { now = refl; under = refl }; allowed = refl; within = lit≤ tt; same = refl };
  fetches_last = record { page = _; loaded = record { now = refl; under = refl }; allowed = refl; within = lit≤ tt; same = refl };
  fetches_all = record { page = _; loaded = record { now = refl; under = refl }; allowed = refl; within = lit≤ tt; same = refl };
  places_last = record { page = _; loaded = record { now = refl; under = refl }; allowed = refl; next = refl; most = lit≤ tt; within = lit≤ tt };
  places_all = record { page = _; loaded = record { now = refl; under = refl }; allowed = refl; next = refl; most = lit≤ tt; within = lit≤ tt };
  last_place = record { page = _; loaded = record { now = refl; under = refl }; allowed = refl; next = refl; most = lit≤ tt; within = lit≤ tt };
  unloads = record { page = _; loaded = record { now = refl; under = refl }; same = refl };
  filled_up = refl;
  placed = refl;
}

-- the page that a step found is the one that is loaded
found : (p q : LoadedPage) → Some p ≡ Some q → p ≡ q
found p q is = cc

abbrev first_byte : List ℕ → ℕ
first_byte bytes = slice_index_or bytes 0 0

abbrev first_fetched : LoadedPage → ℕ
first_fetched page = first_byte (part_of 0 1 page.content)

pub returns-clause-refused : goal.returns-clause-refused
returns-clause-refused c = record {
  loads_loaded = λ step. let e = step.unloaded in cc;
  loads_again = λ step. let e = step.next in omega arith;
  loads_later = λ step. let e = step.next in omega arith;
  loads_more = λ step. let e : 4097 ≤ 4096 = step.fits in omega arith;
  fetches_unloaded = λ step. let e = step.loaded.now in cc;
  fetches_stale = λ step. let e = step.loaded.under in omega arith;
  fetches_to_place = λ step. let e = found _ _ step.loaded.now in let r = step.allowed in cc (ap (λ (p : LoadedPage). p.right) e, r);
  fetches_past = λ step. let e : 4097 ≤ 4096 = step.within in omega arith;
  fetches_other = λ step.
      let e = found _ _ step.loaded.now in
      let is : ◌≡◌ {A = ℕ} 8 (first_fetched step.page) = ap first_byte step.same in
      let was : ◌≡◌ {A = ℕ} 7 (first_fetched step.page) = ap first_fetched e in
      omega arith;
  places_unloaded = λ step. let e = step.loaded.now in cc;
  places_stale = λ step. let e = step.loaded.under in omega arith;
  places_to_fetch = λ step. let e = found _ _ step.loaded.now in let r = step.allowed in cc (ap (λ (p : LoadedPage). p.right) e, r);
  places_again = λ step. let e : ◌≡◌ {A = ℕ} 1 step.page.places = ap (λ (p : LoadedPage). p.places) (found _ _ step.loaded.now) in let n = step.next in omega arith;
  places_later = λ step. let e : ◌≡◌ {A = ℕ} 1 step.page.places = ap (λ (p : LoadedPage). p.places) (found _ _ step.loaded.now) in let n = step.next in omega arith;
  places_past = λ step. let e : 4097 ≤ 4096 = step.within in omega arith;
  places_worn = λ step. let e = step.most in omega arith;
  unloads_unloaded = λ step. let e = step.loaded.now in cc;
  unloads_stale = λ step. let e = step.loaded.under in omega arith;
  unloads_less = λ step.
      let is : ◌≡◌ {A = ℕ} 4095 (length step.page.content) = ap length step.same in
      let was : ◌≡◌ {A = ℕ} 4096 (length step.page.content) = ap (λ (p : LoadedPage). length p.content) (found _ _ step.loaded.now) in
      omega arith;
}

-- the generations of the pages
abbrev generation_at : ℕ → List PageState → ℕ
generation_at page pages = (page_at page pages).generation

pub returns-clause-pools : goal.returns-clause-pools
unfolding whole_page
returns-clause-pools c = record {
  loads = record { among = lit≤ tt; step = record { unloaded = refl; next = refl; fits = lit≤ tt }; after = refl };
  no_page = λ step. let e : 3 ≤ 2 = step.among in omega arith;
  no_step = λ step. let e : ◌≡◌ {A = ℕ} 2 1 = step.step.next in omega arith;
  both_change = λ step. let e : ◌≡◌ {A = ℕ} 1 0 = ap (generation_at 0) step.after in omega arith;
  none_changes = λ step. let e : ◌≡◌ {A = ℕ} 0 1 = ap (generation_at 1) step.after in omega arith;
}
