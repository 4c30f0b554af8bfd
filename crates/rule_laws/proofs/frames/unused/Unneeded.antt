-- What no operand names is needed nowhere.
use Rattle.std.proofs.Common.{◌≡◌, inl, inr, ⊎_elim, ℕ, ◌+◌, Bool, true, false, List, [], ◌∷◌, length, refl, sym, ap, ◌∙◌}
use Rattle.std.specs.List.{list_all}
use Rattle.std.specs.Prelude.{None, Option, Some, not, option_to_list, slice_get, ◌==◌}
use Rattle.ir_laws.specs.ir_base.declared.outcome.Place.{Place}
use Rattle.rule_uses.specs.Uses.{local_of, locals_in}
use Rattle.ir_laws.proofs.facts.Truth.{itself, and_first, and_second, holds}
use Rattle.rule_laws.proofs.rules.local_rules.Carried.{passing}
use Rattle.rule_laws.proofs.rules.path_rules.Holding.{HoldsOf, of_parts}
use Rattle.ir_laws.proofs.paths.source_rules.Locals.{listed_either}
use Rattle.ir_laws.specs.flow_solver.Paths.{IsListed}
use Rattle.rule_laws.proofs.rules.counted.PartFacts.{all_at}
use Rattle.rule_laws.proofs.frames.rows.EdgeUses.{taken_by}
use Rattle.ir_laws.proofs.facts.Lists.{by_value}
use Rattle.ir_parts.specs.Contents.{ending_operands, instr_operands, part_operands}
use Rattle.ir_parts.specs.Parts.{OfPhi, Part, first_part, parts_of}
use Rattle.ir_laws.specs.ir_model.Names.{position_of}
use Rattle.ir_laws.specs.ir_model.declared.instr.Incoming.{Incoming}
use Rattle.ir_laws.specs.ir_model.declared.instr.Instr.{Instr}
use Rattle.ir_laws.specs.ir_model.declared.module.Block.{Block}
use Rattle.ir_laws.specs.ir_model.declared.module.Function.{Function}
use Rattle.ir_laws.specs.ir_model.declared.operand.Operand.{Operand}
use Rattle.ir_laws.specs.ir_paths.declared.point.Point.{Point}
use Rattle.rule_laws.specs.frames.needed.Crossed.{AreFramesUnneeded}
use Rattle.rule_laws.specs.rules.unused.Unused.{AreFramesUnused, is_other, names_value}
use Rattle.ir_laws.specs.run_step.Step.{fetch, fetch_in, fetch_or}
use Rattle.frame_contents.specs.frame_crossing.EdgeUses.{IsUsedOn}
use Rattle.frame_contents.specs.frame_crossing.Paths.{Across, IsNeeded, IsNeededBehind, IsNeededFrom, Next, OnEdge, Use, used_by}

module _ (k : ℕ) (g : Function) (v : ℕ) (none : first_part (names_value v) (parts_of k g) ≡ None) where
  abbrev Free : Place × Part → Type 0
  Free x = names_value v x.0 x.1 ≡ false

  parts : HoldsOf Free k g
  parts = of_parts Free k g (passing (names_value v) (parts_of k g) none)

  no_local : (x : Operand) → is_other v x ≡ true → x ≡ Operand.Local v → ⊥
  no_local x e same =
      let here : (v == v) ≡ true = itself v in
      let bad : false ≡ true = sym (ap not here) ∙ ap (is_other v) (sym same) ∙ e in
      absurd (cc)

  one_unlisted : (x : Operand) → is_other v x ≡ true → IsListed v (option_to_list (local_of x)) → ⊥
  one_unlisted (Operand.Local n) e (inl same) = no_local (Operand.Local n) e (ap (λ (m : ℕ). Operand.Local m) (sym same))
  one_unlisted (Operand.Local n) e (inr l) = absurd l
  one_unlisted _ e l = absurd l

  unlisted : (xs : List Operand) → list_all (is_other v) xs ≡ true → IsListed v (locals_in xs) → ⊥
  unlisted [] e l = absurd l
  unlisted (x ∷ xs) e l =
      ⊎_elim
      (λ a. one_unlisted x (and_first (is_other v x) (list_all (is_other v) xs) e) a)
      (λ b. unlisted xs (and_second (is_other v x) (list_all (is_other v) xs) e) b)
      (listed_either v (option_to_list (local_of x)) (locals_in xs) l)

  not_used : (q at : ℕ) → IsListed v (used_by (fetch g q at)) → ⊥
  not_used q at = on (slice_get g.blocks q) refl
    where
      on : (o : Option Block) → slice_get g.blocks q ≡ o → IsListed v (used_by (fetch_in o at)) → ⊥
      on None e l = absurd l
      on (Some b) e l = inside (slice_get b.instrs at) refl (at == length b.instrs) l
        where
          inside : (o : Option Instr) → slice_get b.instrs at ≡ o → (t : Bool) → IsListed v (used_by (fetch_or o t b.term)) → ⊥
          inside (Some i) d t r = unlisted (instr_operands i) (holds (list_all (is_other v) (instr_operands i)) ((parts.blocks q b e).instrs at i d)) r
          inside None d true r = unlisted (ending_operands b.term) (holds (list_all (is_other v) (ending_operands b.term)) (parts.blocks q b e).ending) r
          inside None d false r = absurd r

  not_on : (from to : ℕ) → IsUsedOn g v from to → ⊥
  not_on from to l =
      let x = taken_by g v from to l in
      let all = holds (list_all (is_other v) (part_operands (OfPhi x.phi))) ((parts.blocks to x.block x.got).phis x.at x.phi x.stands) in
      no_local x.incoming.value (all_at (λ (i : Incoming). is_other v i.value) x.phi.incoming (by_value (is_other v) x.phi.incoming ∙ all) x.index x.incoming x.there) x.value

  not_needed : (q at : ℕ) → IsNeeded g v q at → ⊥
  not_needed _ _ (Use q at out used) = not_used q at used
  not_needed _ _ (Next q at i out e other more) = not_needed q (at + 1) more
  not_needed _ _ (OnEdge q at label out leads used) = not_on q (position_of g label) used
  not_needed _ _ (Across q at label out leads phis more) = not_needed (position_of g label) 0 more

  not_from : (q label : ℕ) → IsNeededFrom g v q label → ⊥
  not_from q label (inl used) = not_on q (position_of g label) used
  not_from q label (inr h) = not_needed (position_of g label) 0 h.1

  pub not_behind : (s : Point) → IsNeededBehind g v s → ⊥
  not_behind s (inl h) = not_from s.block _ h
  not_behind s (inr h) = not_from s.block _ h

pub unneeded : (k : ℕ) (g : Function) → AreFramesUnused k g → AreFramesUnneeded g
unneeded k g h p i v there calls makes s l needed = not_behind k g v (h p i v there calls makes) s needed
