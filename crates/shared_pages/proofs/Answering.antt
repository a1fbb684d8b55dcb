-- What a load answers.
use Rattle.std.proofs.Common.{◌≡◌, ℕ, ◌+◌, ◌==◌, true, false, Option, Some, None, refl}
use Rattle.smbd_base.specs.declared.token.TheConstants.{LAST_GENERATION}
use Rattle.smbd_base.specs.Tokens.{PageToken}
use Rattle.smbd_base.specs.Pages.{LoadedPage}
use Rattle.shared_pages.specs.declared.answers.Load.TheVariants.{Loaded, Live, Spent}
use Rattle.shared_pages.specs.Answers.{token_of_page, of_live, loading}

pub answers_loaded : (page g : ℕ) (o : Option LoadedPage) → of_live (token_of_page page g) o ≡ None → (g == LAST_GENERATION) ≡ false → Loaded (token_of_page page (g + 1)) ≡ loading page g o
answers_loaded page g None none ne = rw ne refl
answers_loaded page g (Some x) none ne = absurd cc

pub answers_spent : (page g : ℕ) (o : Option LoadedPage) → of_live (token_of_page page g) o ≡ None → (g == LAST_GENERATION) ≡ true → Spent ≡ loading page g o
answers_spent page g None none is = rw is refl
answers_spent page g (Some x) none is = absurd cc

pub answers_live : (page g : ℕ) (o : Option LoadedPage) (t : PageToken) → Some t ≡ of_live (token_of_page page g) o → Live t ≡ loading page g o
answers_live page g None t is = absurd cc
answers_live page g (Some x) t is = cc
