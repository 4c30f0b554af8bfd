-- The paths of a function whose saves are written out, by where they come from.
use Rattle.std.proofs.Common.{◌≡◌, ◌⊎◌, inl, inr, ℕ, Bool, true, false, List, [], length, refl, sym, ap, ◌∙◌, subst, arith}
use Rattle.std.specs.Prelude.{Some, None, Option, slice_get, if◌then◌else◌}
use Rattle.rule_laws.specs.ir_laws.facts.renamed.Regular.{passes}
use Rattle.pass_early.specs.Early.{save_call, saved}
use Rattle.pass_early_proof.proofs.early.path_rules.SavedCalls.{IsOwn}
use Rattle.rule_laws.proofs.ir_laws.paths.path_rules.Where.{has_where}
use Rattle.ir_model.specs.declared.instr.Instr.{Instr}
use Rattle.ir_model.specs.declared.module.Function.{Function}
use Rattle.rule_laws.specs.ir_paths.Paths.{Leads, has_point}
use Rattle.rule_laws.specs.ir_paths.Windows.{instr_at, points_where}
use Rattle.rule_laws.specs.ir_paths.declared.point.Point.{Point}
use Rattle.pass_early_proof.proofs.early.saves.Apart.{back_back, front_back, front_front}
use Rattle.pass_early_proof.proofs.early.saves.Instrs.{name_at}
use Rattle.pass_early_proof.proofs.early.saves.Parts.{at_back}
use Rattle.pass_early_proof.proofs.early.saves.Saves.{lone_front}
use Rattle.rule_laws.specs.ir_laws.paths.expanded.Avoided.{AreAvoided}
use Rattle.rule_laws.proofs.ir_laws.paths.expanded.Strands.{IsLedTo, IsOnlyNext, ahead_home, leads_home}
use Rattle.pass_early_proof.proofs.early.saves.Ways.{strands, within}
use Rattle.pass_early_proof.proofs.early.saves.Windows.{front_bare, front_lone}
use Rattle.rule_laws.proofs.ir_laws.paths.expanded.Windows.{instr_at_is}
use Rattle.pass_early_proof.specs.early.saves.SavesWritten.{is_bare, saved_function}
use Rattle.pass_early_proof.specs.early.saves.Spots.{back_of, front_of, number_of_block, own_saves}
use Rattle.rule_laws.specs.ir_laws.facts.expanded.Spots.{instrs_in}
use Rattle.rule_laws.specs.ir_laws.paths.expanded.Tokens.{HasNamedTokens}

-- y is the front or the back of a point
abbrev pub IsOf : Function → Point → Point → Type 0
IsOf f y q = (y ≡ front_of f q) ⊎ (y ≡ back_of f q)

-- of one point alone
pub same_source : (f : Function) (y p q : Point) → IsOf f y p → IsOf f y q → p ≡ q
same_source f y p q (inl e) (inl d) = front_front f p q (sym e ∙ d)
same_source f y p q (inl e) (inr d) = front_back f p q (sym e ∙ d)
same_source f y p q (inr e) (inl d) = sym (front_back f q p (sym d ∙ e))
same_source f y p q (inr e) (inr d) = back_back f p q (sym e ∙ d)

-- where no instruction stands none is written
pub none_front : (f : Function) (p : Point) → slice_get (instrs_in (slice_get f.blocks p.block)) p.at ≡ None → front_of f p ≡ back_of f p
none_front f p e =
    let none : own_saves f.coroutine (slice_get (instrs_in (slice_get f.blocks p.block)) p.at) ≡ 0 = ap (own_saves f.coroutine) e in
    let same : (front_of f p).at ≡ (back_of f p).at = omega (arith, none) in
    λ i. record { block = p.block; at = same i }

module _ (f : Function) (named : HasNamedTokens f) where
  abbrev g : Function
  g = saved_function f

  abbrev name : Point → ℕ
  name p = name_at f.coroutine p.at (number_of_block f.coroutine p.block (length f.names) f.blocks) (instrs_in (slice_get f.blocks p.block))

  here_is : (p : Point) (o : Option Instr) → instr_at f p ≡ o → slice_get (instrs_in (slice_get f.blocks p.block)) p.at ≡ o
  here_is p o e = sym (instr_at_is (slice_get f.blocks p.block) p.at) ∙ e

  -- what stands at fronts and backs
  pub back_stays : (p : Point) (i : Instr) → instr_at f p ≡ Some i → is_bare f.coroutine i ≡ false → instr_at g (back_of f p) ≡ Some i
  back_stays p i e b = ap (instr_at g) (sym (lone_front f named p i (here_is p (Some i) e) b)) ∙ front_lone f named p i (here_is p (Some i) e) b

  pub front_same : (p : Point) (i : Instr) → instr_at f p ≡ Some i → is_bare f.coroutine i ≡ false → front_of f p ≡ back_of f p
  front_same p i e b = lone_front f named p i (here_is p (Some i) e) b

  pub front_save : (p : Point) (i : Instr) → instr_at f p ≡ Some i → is_bare f.coroutine i ≡ true → instr_at g (front_of f p) ≡ Some (save_call (name p))
  front_save p i e b = front_bare f named p i (here_is p (Some i) e) b

  pub back_saved : (p : Point) (i : Instr) → instr_at f p ≡ Some i → is_bare f.coroutine i ≡ true → instr_at g (back_of f p) ≡ Some (saved (name p) i)
  back_saved p i e b =
      at_back f p
      ∙ ap (λ (o : Option Instr). then_at o) (here_is p (Some i) e)
      ∙ ap (λ (t : Bool). Some (if t then saved (name p) i else i)) b
    where
      then_at : Option Instr → Option Instr
      then_at None = None
      then_at (Some x) = Some (if is_bare f.coroutine x then saved (name p) x else x)

  -- ---- tests that pass the instruction itself

  module _ (t : Instr → Bool) (own : IsOwn t) where
    pub test_back : (p : Point) → passes t (instr_at g (back_of f p)) ≡ passes t (instr_at f p)
    test_back p = on (instr_at f p) refl
      where
        bare : (i : Instr) → instr_at f p ≡ Some i → (b : Bool) → is_bare f.coroutine i ≡ b → passes t (instr_at g (back_of f p)) ≡ t i
        bare i e true b = ap (passes t) (back_saved p i e b) ∙ own.saved_one f.coroutine (name p) i b
        bare i e false b = ap (passes t) (back_stays p i e b)

        then_at : Option Instr → Option Instr
        then_at None = None
        then_at (Some x) = Some (if is_bare f.coroutine x then saved (name p) x else x)

        on : (o : Option Instr) → instr_at f p ≡ o → passes t (instr_at g (back_of f p)) ≡ passes t o
        on None e = ap (passes t) (at_back f p ∙ ap (λ (o : Option Instr). then_at o) (here_is p None e))
        on (Some i) e = bare i e (is_bare f.coroutine i) refl

    -- one that no suspend passes whose save is written passes fronts too
    module _ (other : (i : Instr) → is_bare f.coroutine i ≡ true → t i ≡ false) where
      pub test_front : (p : Point) → passes t (instr_at g (front_of f p)) ≡ passes t (instr_at f p)
      test_front p = on (instr_at f p) refl
        where
          bare : (i : Instr) → instr_at f p ≡ Some i → (b : Bool) → is_bare f.coroutine i ≡ b → passes t (instr_at g (front_of f p)) ≡ t i
          bare i e true b = ap (passes t) (front_save p i e b) ∙ own.save (name p) ∙ sym (other i b)
          bare i e false b = ap (λ (q : Point). passes t (instr_at g q)) (front_same p i e b) ∙ ap (passes t) (back_stays p i e b)

          on : (o : Option Instr) → instr_at f p ≡ o → passes t (instr_at g (front_of f p)) ≡ passes t o
          on None e = ap (λ (q : Point). passes t (instr_at g q)) (none_front f p (here_is p None e)) ∙ test_back p ∙ ap (passes t) e
          on (Some i) e = bare i e (is_bare f.coroutine i) refl

      pub are_avoided : AreAvoided (front_of f) (back_of f) (points_where t f) (points_where t g)
      are_avoided = record {
        fronts = λ p h. has_where t g (front_of f p) ∙ test_front p ∙ sym (has_where t f p) ∙ h;
        backs = λ p h. has_where t g (back_of f p) ∙ test_back p ∙ sym (has_where t f p) ∙ h;
        home = λ p h k. has_where t f p ∙ sym (test_front p) ∙ sym (has_where t g (front_of f p)) ∙ h;
      }

  pub none_avoided : AreAvoided (front_of f) (back_of f) [] []
  none_avoided = record { fronts = λ p h. refl; backs = λ p h. refl; home = λ p h k. refl }

  -- ---- where paths come from

  module _ (avoided besides : List Point) (both : AreAvoided (front_of f) (back_of f) avoided besides) where
    abbrev LedTo : Point → Point → Type 0
    LedTo p y = IsLedTo f g (front_of f) (back_of f) (strands f) avoided besides both p y

    pub led_home : (p y q : Point) → IsOf f y q → Leads g besides (back_of f p) y → Leads f avoided p q
    led_home p y q at l = to (leads_home f g (front_of f) (back_of f) (strands f) avoided besides both p y l)
      where
        to : LedTo p y → Leads f avoided p q
        to x = subst (λ (z : Point). Leads f avoided p z) (same_source f y x.point q x.is at) x.leads

    -- from a front a path leads to the back at once, or comes from one of the function
    pub front_home : (p y q : Point) → IsOf f y q → Leads g besides (front_of f p) y → (y ≡ back_of f p) ⊎ Leads f avoided p q
    front_home p y q at l = on (within f p)
      where
        to : LedTo p y → Leads f avoided p q
        to x = subst (λ (z : Point). Leads f avoided p z) (same_source f y x.point q x.is at) x.leads

        ahead : (y ≡ back_of f p) ⊎ ((has_point besides (back_of f p) ≡ false) × LedTo p y) → (y ≡ back_of f p) ⊎ Leads f avoided p q
        ahead (inl e) = inl e
        ahead (inr x) = inr (to x.1)

        on : (front_of f p ≡ back_of f p) ⊎ IsOnlyNext g (front_of f p) (back_of f p) → (y ≡ back_of f p) ⊎ Leads f avoided p q
        on (inl e) = inr (led_home p y q at (subst (λ (x : Point). Leads g besides x y) e l))
        on (inr i) = ahead (ahead_home f g (front_of f) (back_of f) (strands f) avoided besides both p y i l)
