-- Functions that give frames have the headings and names that they had.
use Rattle.std.proofs.Common.{◌≡◌, ℕ, ◌+◌, List, [], ◌∷◌, map, refl, ap}
use Rattle.frame_layout.specs.declared.layout.Layout.{Layout}
use Rattle.frame_layout.specs.declared.layout.Layouts.{Layouts}
use Rattle.ir_base.specs.declared.outcome.Place.{Place}
use Rattle.ir_model.specs.declared.module.Function.{Function}
use Rattle.ir_model.specs.declared.module.Module.{Module}
use Rattle.pass_elide.specs.Elided.{elided_functions, elided_module}
use Rattle.pass_proofs.specs.ir_laws.facts.function_rules.Signatures.{HaveSameSignatures, heading}
use Rattle.pass_proofs.specs.ir_laws.facts.same_names.Same.{HaveSameNames, naming}

module _ (m : Module) (ls : List Layout) (sites : List Place) where
  headings_same : (func : ℕ) (fs : List Function) → map heading (elided_functions m ls sites func fs) ≡ map heading fs
  headings_same func [] = refl
  headings_same func (f ∷ fs) = ap (λ hs. heading f ∷ hs) (headings_same (func + 1) fs)

  namings_same : (func : ℕ) (fs : List Function) → map naming (elided_functions m ls sites func fs) ≡ map naming fs
  namings_same func [] = refl
  namings_same func (f ∷ fs) = ap (λ ns. naming f ∷ ns) (namings_same (func + 1) fs)

pub signatures_stay : (layouts : Layouts) (sites : List Place) (m : Module)
    → HaveSameSignatures m (elided_module layouts sites m)
signatures_stay layouts sites m =
    record {
      types = refl;
      globals = refl;
      declarations = refl;
      functions = headings_same m layouts.coroutines sites 0 m.functions;
    }

pub names_stay : (layouts : Layouts) (sites : List Place) (m : Module) → HaveSameNames m (elided_module layouts sites m)
names_stay layouts sites m =
    record {
      types = refl;
      globals = refl;
      declarations = refl;
      functions = namings_same m layouts.coroutines sites 0 m.functions;
    }
