-- The first pass writes each save out, and saves have names.
use Rattle.std.proofs.Common.{◌≡◌, ℕ, suc, ◌+◌, Bool, true, false, List, [], ◌∷◌, ◌++◌, Option, None, Some, length, refl, sym, ap, ◌∙◌, subst}
use Rattle.std.proofs.lemmas.Bool.{false≢true}
use Rattle.std.specs.Prelude.{is_some, option_and_then, if◌then◌else◌}
use Rattle.compiler_theorem.proofs.parts.Tokens.{HasTokens, is_bare}
use Rattle.compiler.specs.ir_base.declared.outcome.Place.{Place}
use Rattle.compiler.proofs.ir_laws.facts.Members.{at_each}
use Rattle.compiler.specs.ir_model.declared.instr.Instr.{Instr}
use Rattle.compiler.specs.ir_model.declared.module.Block.{Block}
use Rattle.compiler.specs.ir_model.declared.module.Function.{Function}
use Rattle.compiler.specs.ir_model.declared.operand.Callee.{Callee}
use Rattle.compiler.specs.ir_model.declared.operand.Intrinsic.{Intrinsic}
use Rattle.compiler.specs.ir_parts.Parts.{Part, instr_place, parts_of}
use Rattle.compiler.specs.ir_paths.Windows.{call_result, instr_at, instr_in, is_call_of, is_suspend_of, points_from, points_in, points_where}
use Rattle.compiler.specs.ir_paths.declared.point.Point.{Point}
use Rattle.compiler.specs.pass_early.BeginName.{with_begin_name}
use Rattle.compiler.specs.pass_early.Early.{after_instrs, after_one, early_blocks, early_function, early_instrs, early_named, early_one, is_unsaved, renaming_of, save_call, saved}
use Rattle.compiler.specs.pass_early.Renaming.{renamed_instr}
use Rattle.compiler.specs.pass_early.declared.renaming.Renaming.{Renaming}
use Rattle.compiler.proofs.rule_laws.rules.path_rules.Holding.{part_none, to_parts}
use Rattle.compiler.proofs.rule_laws.rules.path_rules.Windows.{of_window}
use Rattle.compiler.specs.rule_locals.Instrs.{on_instr}
use Rattle.compiler.specs.rule_windows.Windows.{IsFirstWindow, NotOne, suspends_of}
use Rattle.compiler.specs.run_laws.changed.Changed.{Each}

-- ---- no suspend is left without a save

abbrev IsSaved : Instr → Type 0
IsSaved i = is_unsaved i ≡ false

written_saved : (n : ℕ) (i : Instr) → is_unsaved (saved n i) ≡ false
written_saved n (Instr.Call r must_tail ty (Callee.Intrinsic Intrinsic.CoroSuspend) []) = refl
written_saved n (Instr.Call r must_tail ty (Callee.Intrinsic Intrinsic.CoroSuspend) (a ∷ args)) = refl
written_saved n _ = refl

one_saved : (n : ℕ) (i : Instr) (rest : List Instr) → Each IsSaved rest → Each IsSaved (early_one n i ++ rest)
one_saved n i rest h = on (is_unsaved i) refl
  where
    on : (b : Bool) → is_unsaved i ≡ b → Each IsSaved ((if b then save_call n ∷ saved n i ∷ [] else i ∷ []) ++ rest)
    on true e = (refl, (written_saved n i, h))
    on false e = (e, h)

instrs_saved : (r : Renaming) (n : ℕ) (is : List Instr) → Each IsSaved (early_instrs r n is)
instrs_saved r n [] = tt
instrs_saved r n (i ∷ is) =
    one_saved n (renamed_instr r i) (early_instrs r (after_one n (renamed_instr r i)) is)
    (instrs_saved r (after_one n (renamed_instr r i)) is)

abbrev HasSaves : Block → Type 0
HasSaves b = Each IsSaved b.instrs

blocks_saved : (r : Renaming) (n : ℕ) (bs : List Block) → Each HasSaves (early_blocks r n bs)
blocks_saved r n [] = tt
blocks_saved r n (b ∷ bs) = (instrs_saved r n b.instrs, blocks_saved r (after_instrs r n b.instrs) bs)

early_saved : (f : Function) → f.coroutine ≡ true → Each HasSaves (early_function f).blocks
early_saved f e = subst (λ (b : Bool). Each HasSaves (if b then early_named (with_begin_name f) else f).blocks) (sym e)
    (blocks_saved (renaming_of (with_begin_name f)) (length (with_begin_name f).names) (with_begin_name f).blocks)

-- ---- a save without a name would have no suspend

none_from : (block at : ℕ) (is : List Instr) → points_from (is_suspend_of None) block at is ≡ []
none_from block at [] = refl
none_from block at (i ∷ is) = none_from block (suc at) is

none_in : (block : ℕ) (bs : List Block) → points_in (is_suspend_of None) block bs ≡ []
none_in block [] = refl
none_in block (b ∷ bs) = ap (λ (ps : List Point). ps ++ points_in (is_suspend_of None) (suc block) bs)
    (none_from block 0 b.instrs) ∙ none_in (suc block) bs

module _ (k : ℕ) (f : Function) (coroutine : f.coroutine ≡ true) (window : IsFirstWindow k f None) where
  save_named : (p : Point) (i : Instr) → instr_at f p ≡ Some i → is_call_of Intrinsic.CoroSave i ≡ true
      → is_some (call_result i) ≡ true
  save_named p i there save = on (call_result i) refl
    where
      on : (o : Option ℕ) → call_result i ≡ o → is_some o ≡ true
      on (Some r) e = refl
      on None e =
          let token : option_and_then call_result (instr_at f p) ≡ None = ap (option_and_then call_result) there ∙ e in
          let none : suspends_of f p ≡ [] = ap (λ (o : Option ℕ). points_where (is_suspend_of o) f) token
          ∙ none_in 0 f.blocks in
          absurd ((of_window k f coroutine window).each p i there save (NotOne (λ s one. never s (sym none ∙ one))))
        where
          never : (s : Point) → [] ≡ s ∷ [] → ⊥
          never s e = absurd (cc)

  both : (q : Place) (i : Instr) → is_unsaved i ≡ false
      → (is_call_of Intrinsic.CoroSave i ≡ true → is_some (call_result i) ≡ true) → is_bare q i ≡ false
  both q (Instr.Call r must_tail ty (Callee.Intrinsic Intrinsic.CoroSuspend) args) u s = u
  both q (Instr.Call (Some r) must_tail ty (Callee.Intrinsic Intrinsic.CoroSave) args) u s = refl
  both q (Instr.Call None must_tail ty (Callee.Intrinsic Intrinsic.CoroSave) args) u s = absurd (false≢true (s refl))
  both q _ u s = refl

  pub saves_tokens : Each HasSaves f.blocks → HasTokens k f
  saves_tokens h = part_none (on_instr is_bare) (parts_of k f) (to_parts (λ (x : Place × Part). on_instr is_bare x.0 x.1 ≡ false) k f (record {
    signature = refl;
    blocks = λ j b there. record {
      head = refl;
      phis = λ at x e. refl;
      instrs = λ at i e.
          both (instr_place k j (length b.phis + at)) i (at_each IsSaved b.instrs at i (at_each HasSaves f.blocks j b h there) e)
          (save_named (record { block = j; at = at }) i (ap (λ (o : Option Block). instr_in o at) there ∙ e));
      ending = refl;
    };
  }))

pub early_tokens : (k : ℕ) (f : Function) → f.coroutine ≡ true → (early_function f).coroutine ≡ true
    → IsFirstWindow k (early_function f) None → HasTokens k (early_function f)
early_tokens k f e c window = saves_tokens k (early_function f) c window (early_saved f e)
