-- Texts that are scripts and texts that are none, worked out.
use Rattle.std.specs.Prelude.{◌≡◌, ℕ, List, [], ◌∷◌, codes, Some, None}
use Rattle.smbd_base.specs.declared.end_id.EndId.TheVariants.{Client}
use Rattle.world_core.specs.declared.choice.Choice.TheVariants as choices
use Rattle.sim_script.specs.Scripts.{script_line, first_bad_line, script_of}

-- a script of two lines
abbrev pub worked_script : List ℕ
worked_script = codes "drive C\nsubmit C 3 97\n"

pub record IsWorked : Type 0 where
  pub all_good : first_bad_line worked_script ≡ None
  pub choices : script_of worked_script ≡ choices.Drive Client ∷ choices.Submit Client (codes "abc") ∷ []
  pub second_bad : first_bad_line (codes "cut S\n\ncarry S") ≡ Some 2
  pub no_lines : first_bad_line [] ≡ None
  pub no_choices : script_of [] ≡ []

-- bytes that are no line
pub record AreNoLines : Type 0 where
  pub no_bytes : script_line (codes "submit C 0 1") ≡ None
  pub too_long : script_line (codes "submit C 1048577 0") ≡ None
  pub leading_zero : script_line (codes "submit C 03 0") ≡ None
  pub no_byte : script_line (codes "submit C 3 256") ≡ None
  pub lower_case : script_line (codes "drive c") ≡ None
  pub two_spaces : script_line (codes "drive  C") ≡ None
  pub space_at_end : script_line (codes "drive C ") ≡ None
  pub empty : script_line [] ≡ None
