use Rattle.std.proofs.Common.{◌≡◌, ℕ, zero, suc, ◌==◌, Bool, false, cond, List, [], ◌∷◌, codes, refl, ap, arith}
use Rattle.std.proofs.lemmas.Bool.Decides.{nat_tests}
use Rattle.std.specs.Fmt.{digits}
use Rattle.event_log.specs.declared.side.Side.{Side}
use Rattle.event_log.specs.declared.side.Side.TheVariants.{C, S, Cw, Sw}
use Rattle.copy_log.specs.CopyLogs.{LogEntry, lines_at, side_lines}
use Rattle.copy_log.specs.Worked.{deeds}
use Rattle.copy_log.proofs.worked.worked_logs.Goals as goal

abbrev client : LogEntry
client = record { side = C; line = codes "C post 255" }

abbrev server : LogEntry
server = record { side = S; line = codes "S post 255" }

abbrev load : LogEntry
load = record { side = Cw 1; line = codes "C1 load 256 fetch 3" }

abbrev fetch : LogEntry
fetch = record { side = Sw 1; line = codes "S1 fetch 256 0 3" }

-- no worker but the first
later : (k : ℕ) (line : List ℕ) → cond (suc (suc k) == 1) (line ∷ []) [] ≡ []
later k line = ap (λ (t : Bool). cond t (line ∷ []) []) (let z : (suc (suc k) == 1) ≡ false = grind (arith, nat_tests) in z)

in_turn : (side : Side) → lines_at side (client ∷ server ∷ load ∷ fetch ∷ []) ≡ side_lines deeds side
unfolding digits
in_turn C = refl
in_turn S = refl
in_turn (Cw zero) = refl
in_turn (Cw (suc zero)) = refl
in_turn (Cw (suc (suc k))) = later k (codes "C1 load 256 fetch 3")
in_turn (Sw zero) = refl
in_turn (Sw (suc zero)) = refl
in_turn (Sw (suc (suc k))) = later k (codes "S1 fetch 256 0 3")

mixed : (side : Side) → lines_at side (client ∷ server ∷ fetch ∷ load ∷ []) ≡ side_lines deeds side
unfolding digits
mixed C = refl
mixed S = refl
mixed (Cw zero) = refl
mixed (Cw (suc zero)) = refl
mixed (Cw (suc (suc k))) = later k (codes "C1 load 256 fetch 3")
mixed (Sw zero) = refl
mixed (Sw (suc zero)) = refl
mixed (Sw (suc (suc k))) = later k (codes "S1 fetch 256 0 3")

pub returns : goal.returns
returns c = record {
  in_turn = record {
    entries = client ∷ server ∷ load ∷ fetch ∷ [];
    all = refl;
    each = in_turn;
    first = codes "C post 255";
    second = codes "S post 255";
    later = load ∷ fetch ∷ [];
    opening = refl;
  };
  mixed = record {
    entries = client ∷ server ∷ fetch ∷ load ∷ [];
    all = refl;
    each = mixed;
    first = codes "C post 255";
    second = codes "S post 255";
    later = fetch ∷ load ∷ [];
    opening = refl;
  };
}
