-- How derivations are printed.
use Rattle.std.specs.Prelude.{ℕ, ◌<◌, List, [], ◌∷◌, ◌++◌, codes, length, map, slice_get}
use Rattle.std.specs.List.{join_with_byte}
use Rattle.std.specs.Option.{option_map_or}
use Rattle.environment_sets.specs.Lists.{IsIn}
use Rattle.environment_sets.specs.Sets.{Set}
use Rattle.circuit_model.specs.declared.model.Fact.{Fact}
use Rattle.circuit_model.specs.Closure.{fact}
use Rattle.circuit_model.specs.Derivation.{Step, Measured, Inferred, Ending, Holds, TwoValues, Refuted, Derivation}
use Rattle.circuit_model.specs.Diagnoses.{Place}
use Rattle.circuit_model.specs.Present.{PresentView}
use Rattle.answer_text.specs.Texts.{fact_text, environment_text}

-- the name of the component at the position
abbrev pub part_name : PresentView → ℕ → List ℕ
part_name s position = option_map_or (λ c. c.name) (slice_get s.parts position) []

-- facts, with commas between them
abbrev pub facts_text : PresentView → List Fact → List ℕ
facts_text s facts = join_with_byte 44 (map (fact_text s) facts)

-- ` from ` and the facts, if there are any
abbrev pub from_text : PresentView → List Fact → List ℕ
from_text s [] = []
from_text s (f ∷ facts) = codes " from " ++ facts_text s (f ∷ facts)

-- a fact that was measured; or one by a component, from the facts at its ports
abbrev pub step_line : PresentView → Step → List ℕ
step_line s (Measured f) = fact_text s f ++ codes " measured\n"
step_line s (Inferred f part instance ports from) = fact_text s f ++ codes " by " ++ part_name s part ++ from_text s from ++ codes "\n"

-- the lines of the steps
abbrev pub step_lines : PresentView → List Step → List ℕ
step_lines s [] = []
step_lines s (t ∷ steps) = step_line s t ++ step_lines s steps

-- no line where a fact holds; else the clash: two words of a cell, or a component and the facts that refute it
abbrev pub ending_line : PresentView → Ending → List ℕ
ending_line s Holds = []
ending_line s (TwoValues c low high) = codes "clash " ++ fact_text s (fact c low) ++ codes "," ++ fact_text s (fact c high) ++ codes "\n"
ending_line s (Refuted part instance ports from) = codes "clash " ++ part_name s part ++ codes " refuted by " ++ facts_text s from ++ codes "\n"

-- the lines of the steps, then that of the ending
abbrev pub derivation_lines : PresentView → Derivation → List ℕ
derivation_lines s d = step_lines s d.steps ++ ending_line s d.ending

-- `under ` and the environment
abbrev pub under_line : PresentView → Set Place → List ℕ
under_line s E = codes "under " ++ environment_text s E ++ codes "\n"

-- the fact is of a net of the present
abbrev pub HasNet : PresentView → Fact → Type 0
HasNet s f = f.cell.net < length s.nets

-- there is a component at the position, and the facts are of nets of the present
pub record AreNamed (s : PresentView) (position : ℕ) (from : List Fact) : Type 0 where
  pub part : position < length s.parts
  pub facts : (f : Fact) → IsIn from f → HasNet s f

-- what the step names is in the present
abbrev pub IsNamedStep : PresentView → Step → Type 0
IsNamedStep s (Measured f) = HasNet s f
IsNamedStep s (Inferred f part instance ports from) = HasNet s f × AreNamed s part from

-- what the ending names is in the present
abbrev pub IsNamedEnding : PresentView → Ending → Type 0
IsNamedEnding s Holds = Unit {0}
IsNamedEnding s (TwoValues c low high) = c.net < length s.nets
IsNamedEnding s (Refuted part instance ports from) = AreNamed s part from

-- the components and nets that the derivation names are in the present
pub record CanBeWritten (s : PresentView) (d : Derivation) : Type 0 where
  pub steps : (t : Step) → IsIn d.steps t → IsNamedStep s t
  pub ending : IsNamedEnding s d.ending
