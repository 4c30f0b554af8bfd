-- Lemmas on outside, that speak of no pass.
use Rattle.std.proofs.Common.{◌≡◌, ◌⊎◌, ℕ, ◌+◌, ◌-◌, true, length, refl, sym, ap, ◌∙◌, subst, arith}
use Rattle.std.specs.Prelude.{IsTrue, Some, None, Option, slice_get}
use Rattle.ir_laws.specs.ir_base.declared.outcome.Place.{Place}
use Rattle.rule_laws.proofs.rules.renamed.Outside.{none_breaks}
use Rattle.rule_laws.proofs.rules.path_rules.Holding.{HoldsOf, first_none, of_parts, to_parts}
use Rattle.ir_parts.specs.Parts.{Part, instr_place, parts_of}
use Rattle.ir_laws.specs.ir_model.declared.instr.Instr.{Instr}
use Rattle.ir_laws.specs.ir_model.declared.module.Block.{Block}
use Rattle.ir_laws.specs.ir_model.declared.module.Function.{Function}
use Rattle.ir_laws.specs.ir_paths.Windows.{instr_at, instr_in}
use Rattle.ir_laws.specs.ir_paths.declared.point.Point.{Point}
use Rattle.rule_windows.specs.Outside.{BreaksOutside, IsFirstOutside, ends_with_it, is_return, needs_begin}
use Rattle.rule_windows.specs.Points.{phi_count, phis_in, point_of}
use Rattle.rule_windows.specs.Sets.{IsAfterEnd, IsWithoutBegin, RunsOut}
use Rattle.ir_laws.proofs.paths.path_rules.Outside.{end_at}

-- ---- the rule, by points

abbrev pub Outside : Function → Point → Instr → Type 0
Outside f p i = (IsTrue (ends_with_it i) × IsAfterEnd f p) ⊎ (IsTrue (needs_begin i) × IsWithoutBegin f p)

pub record NothingOutside (f : Function) : Type 0 where
  pub instrs : (p : Point) (i : Instr) → instr_at f p ≡ Some i → Outside f p i → ⊥
  pub returns : (k : ℕ) (b : Block) → slice_get f.blocks k ≡ Some b → IsTrue (is_return b.term) → RunsOut f (end_at k b) → ⊥

-- the point of a place
pub place_point : (func : ℕ) (f : Function) (k j : ℕ) (b : Block) → slice_get f.blocks k ≡ Some b → point_of f (instr_place func k (length b.phis + j)) ≡ record { block = k; at = j }
place_point func f k j b e =
    let same : length b.phis + j - phi_count f k ≡ j = (let count : phi_count f k ≡ length b.phis = ap phis_in e in omega (arith, count)) in
    λ i. record { block = k; at = same i }

module _ (func : ℕ) (f : Function) where
  abbrev Fine : Place × Part → Type 0
  Fine x = BreaksOutside f x → ⊥

  pub to_outside : NothingOutside f → IsFirstOutside func f None
  to_outside h =
      first_none (BreaksOutside f) (λ x. x.0) (parts_of func f) (to_parts Fine func f (record {
        signature = λ k. absurd k.1;
        blocks = λ k b e. record {
          head = λ x. absurd x.1;
          phis = λ j p q x. absurd x.1;
          instrs = λ j i q x. h.instrs (record { block = k; at = j }) i (ap (λ (o : Option Block). instr_in o j) e ∙ q) (subst (λ (p : Point). Outside f p i) (place_point func f k j b e) x.1);
          ending = λ x. h.returns k b e x.1.0 (subst (RunsOut f) (place_point func f k (length b.instrs) b e) x.1.1);
        };
      }))

  pub of_outside : f.coroutine ≡ true → IsFirstOutside func f None → NothingOutside f
  of_outside coroutine none =
      let parts = of_parts Fine func f (none_breaks (BreaksOutside f) (λ x. x.0) (parts_of func f) none) in
      record {
        instrs = λ p i e x. on parts p i e x (slice_get f.blocks p.block) refl;
        returns = λ k b e r x. (parts.blocks k b e).ending (coroutine, (r, subst (RunsOut f) (sym (place_point func f k (length b.instrs) b e)) x));
      }
    where
      on : HoldsOf Fine func f → (p : Point) (i : Instr) → instr_at f p ≡ Some i → Outside f p i → (o : Option Block) → slice_get f.blocks p.block ≡ o → ⊥
      on parts p i e x None d = let no : None ≡ Some i = sym (ap (λ (o : Option Block). instr_in o p.at) d) ∙ e in cc
      on parts p i e x (Some b) d =
          (parts.blocks p.block b d).instrs p.at i (sym (ap (λ (o : Option Block). instr_in o p.at) d) ∙ e)
          (coroutine, subst (λ (q : Point). Outside f q i) (sym (place_point func f p.block p.at b d)) x)
