-- What no source's limit is above, plain modules allow: a function's allocas may be as large as theirs.
use Rattle.std.proofs.Common.{◌≡◌, ℕ, ◌≤◌, Bool, true, false, List, [], ◌∷◌, None, ap, arith, refl}
use Rattle.std.proofs.lemmas.Bool.{le-leb, leb-true}
use Rattle.std.specs.Prelude.{nat_le, not, ◌&&◌}
use Rattle.ir_laws.proofs.facts.Truth.{and_both, and_first, and_second, holds}
use Rattle.ir_laws.specs.ir_base.declared.outcome.Place.{Place}
use Rattle.ir_laws.specs.ir_model.Layout.{size_of}
use Rattle.ir_laws.specs.ir_model.declared.instr.Instr.{Instr}
use Rattle.ir_laws.specs.ir_model.declared.module.Function.{Function}
use Rattle.ir_laws.specs.ir_model.declared.module.Module.{Module}
use Rattle.ir_parts.specs.Parts.{OfInstr, Part, parts_of}
use Rattle.rule_laws.proofs.rules.local_rules.Carried.{Passing, none_of, passing}
use Rattle.rule_laws.specs.rules.function_rules.Kept.{KeepsFunctionRulesAt}
use Rattle.rule_laws.specs.rules.local_rules.Local.{BreaksNoLocalRuleAt}
use Rattle.rule_locals.specs.Extents.{breaks_extents, is_aligned, is_sized}
use Rattle.rule_locals.specs.Instrs.{on_instr}
use Rattle.rule_names.specs.declared.stage.Stage.{Stage}

larger : (k : ℕ) (b : Bool) → not (is_sized 1048576 k && b) ≡ false → not (is_sized 16777216 k && b) ≡ false
larger k b e =
    let both = holds (is_sized 1048576 k && b) e in
    let sized = and_first (is_sized 1048576 k) b both in
    ap not
    (and_both (is_sized 16777216 k) b
    (and_both (nat_le 1 k) (nat_le k 16777216) (and_first (nat_le 1 k) (nat_le k 1048576) sized)
    (below (and_second (nat_le 1 k) (nat_le k 1048576) sized)))
    (and_second (is_sized 1048576 k) b both))
  where
    below : nat_le k 1048576 ≡ true → nat_le k 16777216 ≡ true
    below d = let le : k ≤ 1048576 = leb-true k 1048576 d in le-leb k 16777216 (omega (arith, le))

pub extents_larger : (stage : Stage) (n : Module) (q : Place) (i : Instr) → breaks_extents stage n q i ≡ false
    → breaks_extents Stage.Plain n q i ≡ false
extents_larger Stage.Source n q (Instr.Alloca r ty align) e = larger (size_of n ty) (is_aligned align) e
extents_larger Stage.Plain n q (Instr.Alloca r ty align) e = e
extents_larger stage n q (Instr.Binary r op flags ty left right) e = refl
extents_larger stage n q (Instr.Icmp r pred ty left right) e = refl
extents_larger stage n q (Instr.Select r c a b) e = refl
extents_larger stage n q (Instr.Cast r op nneg arg to) e = refl
extents_larger stage n q (Instr.Load r ty x align) e = e
extents_larger stage n q (Instr.Store arg x align) e = e
extents_larger stage n q (Instr.Gep r inbounds ty base indices) e = e
extents_larger stage n q (Instr.Call r must_tail ty callee args) e = refl

module _ (stage : Stage) (m : Module) (k : ℕ) (f : Function) where
  part_larger : (p : Place) (x : Part) → on_instr (breaks_extents stage m) p x ≡ false
      → on_instr (breaks_extents Stage.Plain m) p x ≡ false
  part_larger p (OfInstr i) e = extents_larger stage m p i e
  part_larger p _ e = refl

  all_larger : (xs : List (Place × Part)) → Passing (on_instr (breaks_extents stage m)) xs
      → Passing (on_instr (breaks_extents Stage.Plain m)) xs
  all_larger [] h = tt
  all_larger (x ∷ xs) h = (part_larger x.0 x.1 h.0, all_larger xs h.1)

  pub rules_larger : KeepsFunctionRulesAt stage m k f → KeepsFunctionRulesAt Stage.Plain m k f
  rules_larger h =
      record {
        tabled = h.tabled;
        definitions = h.definitions;
        known = h.known;
        depths = h.depths;
        calls = h.calls;
        local = record {
          values = h.local.values;
          closed_calls = h.local.closed_calls;
          extents = none_of (on_instr (breaks_extents Stage.Plain m)) (parts_of k f)
              (all_larger (parts_of k f) (passing (on_instr (breaks_extents stage m)) (parts_of k f) h.local.extents));
          transfers = h.local.transfers;
          allocas = h.local.allocas;
          function_pointers = h.local.function_pointers;
          misplaced = h.local.misplaced;
          marks = h.local.marks;
        };
        edges = h.edges;
        uses = h.uses;
      }
