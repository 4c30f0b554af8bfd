-- Behind an instruction that stands at both places the topmost activations go on. The one name that is set has what
-- stands for its value.
use Rattle.std.proofs.Common.{◌≡◌, ◌+◌, ⊎_elim, ℕ, suc, List, length, Option, refl, sym, ap, ◌∙◌, subst, arith}
use Rattle.std.proofs.lemmas.Bool.{cases_eq}
use Rattle.std.specs.Prelude.{None, Some}
use Rattle.pass_elide_proof.proofs.Facts.{not_both, not_less, some_none}
use Rattle.pass_elide_proof.proofs.Settled.{KeepsTop, next_of}
use Rattle.pass_elide_proof.specs.Elision.{Elision, Shape, function_in, rooms}
use Rattle.pass_elide_proof.specs.Match.{AreElided, Beside}
use Rattle.pass_elide_proof.specs.Ordinary.{IsAtOwn, with_at}
use Rattle.pass_elide_proof.specs.Places.{front_at}
use Rattle.pass_proofs.proofs.run_laws.memory.Homes.{value_on}
use Rattle.pass_proofs.proofs.run_laws.memory.Written.{same_some}
use Rattle.pass_proofs.specs.ir_model.declared.instr.Instr.{Instr}
use Rattle.pass_proofs.specs.run_laws.memory.Pointers.{Extends, Home, IsValue}
use Rattle.pass_proofs.specs.run_laws.transfer.Transfer.{AreSet, given_at}
use Rattle.pass_proofs.specs.run_memory.declared.pointer.Value.{Value}
use Rattle.pass_proofs.specs.run_source.declared.state.State.{State}
use Rattle.pass_proofs.specs.run_step.Step.{AtInstr}
use Rattle.pass_proofs.specs.run_step.Values.{Env, value_in}

module _ (e : Elision) (s t : State) (n : ℕ) (r : AreElided e s (with_at t n)) (i : Instr) (own : IsAtOwn e s t i)
    (more : List Home) (extends : Extends r.homes more) (first second : Env)
    (set : AreSet more (given_at (AtInstr i)) s.top.values t.top.values first second) where
  abbrev x : Shape
  x = e.shape s.top.func

  abbrev BothStay : ℕ → Type 0
  BothStay name =
      (value_in first name ≡ value_in s.top.values name) × (value_in second name ≡ value_in t.top.values name)

  unset : (name : ℕ) → (given_at (AtInstr i) ≡ Some name → ⊥)
      → IsValue r.homes (value_in s.top.values name) (value_in t.top.values name)
      → IsValue more (value_in first name) (value_in second name)
  unset name ne h =
      subst (λ (p : Value × Value). IsValue more p.0 p.1)
      (λ j. (sym (set.source name ne) j, sym (set.target name ne) j))
      (value_on r.homes more extends (value_in s.top.values name) (value_in t.top.values name) h)

  value_now : (name : ℕ) (o : Option ℕ) → given_at (AtInstr i) ≡ o
      → IsValue r.homes (value_in s.top.values name) (value_in t.top.values name)
      → IsValue more (value_in first name) (value_in second name)
  value_now name None is h =
      unset name (λ given. some_none (given_at (AtInstr i)) name given is) h
  value_now name (Some at) is h =
      ⊎_elim (λ same. set.stands name (is ∙ ap Some same))
      (λ ne. unset name (λ given. ne (same_some at name (sym is ∙ given))) h) (cases_eq at name)

  both_stay : (name : ℕ) → (given_at (AtInstr i) ≡ Some name → ⊥) → BothStay name
  both_stay name ne = (set.source name ne, set.target name ne)

  -- it stands in front of the next place
  behind : t.top.at + 1 ≡ front_at (rooms e s.top.func) (function_in e s.top.func) s.top.block (s.top.at + 1)
  behind =
      let next : suc s.top.at ≡ s.top.at + 1 = omega arith in
      ap (λ (at : ℕ). at + 1) own.at
      ∙ ap (front_at (rooms e s.top.func) (function_in e s.top.func) s.top.block) next

  pub keeps_top : KeepsTop e s t more (next_of s.top) (next_of t.top) first second
  keeps_top = record {
    place = λ ss ts. Beside own.block behind;
    values = λ name calm. value_now name (given_at (AtInstr i)) refl (r.top.values.each name calm);
    room =
        let few = set.length_source in
        let many = set.length_target in
        let old = r.top.values.room in
        omega (arith, few, many, old);
    need = λ holds name is.
        both_stay name (λ given. not_both (x.need name) is ((own.plain name given).need holds));
    freed = λ holds name is.
        both_stay name (λ given. not_both (x.freed name) is ((own.plain name given).freed holds));
    tested = λ holds name p is.
        both_stay name (λ given. some_none (x.tested name) p is ((own.plain name given).tested holds));
    in_front = λ name le.
        set.target name (λ given. not_less name (length (function_in e s.top.func).names) (own.named name given) le);
    holds = own.holds;
    held = λ name given holds. set.source name (λ is. own.kept name name given is holds refl);
  }
