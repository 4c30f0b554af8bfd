-- What frames hold is the same under each of the three passes.
use Rattle.std.proofs.Common.{◌≡◌, ℕ, suc, ◌+◌, ◌≤◌, Bool, true, false, List, [], ◌∷◌, ◌++◌, map, Some, None, Option, refl, sym, ap, ◌∙◌, arith}
use Rattle.std.specs.Prelude.{slice_get, if◌then◌else◌}
use Rattle.rule_laws.specs.frame_contents.Held.{held_blocks, held_instr, held_instrs, held_phis, if_result, if_value, result_size, value_held, value_size, slot_kind}
use Rattle.pass_early_proof.specs.early.renaming.Passes.{renamed_block}
use Rattle.pass_early_proof.proofs.early.saves.Tokens.{bare_is}
use Rattle.pass_early.specs.BeginName.{named_block, named_instr}
use Rattle.pass_early.specs.Early.{save_call, saved}
use Rattle.pass_early.specs.Renaming.{renamed_instr, renamed_phi}
use Rattle.pass_early.specs.declared.renaming.Renaming.{Renaming}
use Rattle.ir_model.specs.Calls.{result_of_call}
use Rattle.ir_model.specs.Layout.{extent_of, extent_or}
use Rattle.ir_model.specs.declared.instr.Instr.{Instr}
use Rattle.ir_model.specs.declared.instr.Phi.{Phi}
use Rattle.ir_model.specs.declared.module.Block.{Block}
use Rattle.ir_model.specs.declared.module.Module.{Module}
use Rattle.ir_model.specs.declared.operand.Callee.{Callee}
use Rattle.ir_model.specs.declared.operand.Intrinsic.{Intrinsic}
use Rattle.pass_early_proof.specs.early.saves.SavesWritten.{behind_save, behind_saves, is_bare, saved_blocks, with_saves}
use Rattle.rule_laws.specs.ir_sizes.Cut.{capped}

module _ (m k : Module) (types : k.types ≡ m.types) (promise : Option ℕ) (is_value is_slot : ℕ → Bool) where
  -- an instruction in a module of the same types
  instr_stays : (i : Instr) → held_instr k promise is_value is_slot i ≡ held_instr m promise is_value is_slot i
  instr_stays (Instr.Alloca r ty align) =
      λ j. if is_slot r then record { kind = slot_kind promise r; value = r; size = capped (extent_or (extent_of (types j) ty)).size; align = align } ∷ [] else []
  instr_stays (Instr.Binary r op flags ty a b) = refl
  instr_stays (Instr.Icmp r pred ty a b) = refl
  instr_stays (Instr.Select r c a b) = refl
  instr_stays (Instr.Cast r op nneg arg to) = refl
  instr_stays (Instr.Load r ty p align) = refl
  instr_stays (Instr.Store arg p align) = refl
  instr_stays (Instr.Gep r inbounds ty base indices) = refl
  instr_stays (Instr.Call r must_tail ty callee args) = refl

  instrs_stay : (is : List Instr) → held_instrs k promise is_value is_slot is ≡ held_instrs m promise is_value is_slot is
  instrs_stay [] = refl
  instrs_stay (i ∷ is) = λ j. instr_stays i j ++ instrs_stay is j

  pub blocks_stay : (bs : List Block) → held_blocks k promise is_value is_slot bs ≡ held_blocks m promise is_value is_slot bs
  blocks_stay [] = refl
  blocks_stay (b ∷ bs) = λ j. held_phis is_value b.phis ++ instrs_stay b.instrs j ++ blocks_stay bs j

  -- ---- renamed

  module _ (r : Renaming) where
    instr_renamed : (i : Instr) → held_instr k promise is_value is_slot (renamed_instr r i) ≡ held_instr m promise is_value is_slot i
    instr_renamed (Instr.Alloca n ty align) = instr_stays (Instr.Alloca n ty align)
    instr_renamed (Instr.Binary n op flags ty a b) = refl
    instr_renamed (Instr.Icmp n pred ty a b) = refl
    instr_renamed (Instr.Select n c a b) = refl
    instr_renamed (Instr.Cast n op nneg arg to) = refl
    instr_renamed (Instr.Load n ty p align) = refl
    instr_renamed (Instr.Store arg p align) = refl
    instr_renamed (Instr.Gep n inbounds ty base indices) = refl
    instr_renamed (Instr.Call n must_tail ty callee args) = refl

    instrs_renamed : (is : List Instr) → held_instrs k promise is_value is_slot (map (renamed_instr r) is) ≡ held_instrs m promise is_value is_slot is
    instrs_renamed [] = refl
    instrs_renamed (i ∷ is) = λ j. instr_renamed i j ++ instrs_renamed is j

    phis_renamed : (ps : List Phi) → held_phis is_value (map (renamed_phi r) ps) ≡ held_phis is_value ps
    phis_renamed [] = refl
    phis_renamed (p ∷ ps) = λ j. if_value is_value p.result (value_size p.ty) ++ phis_renamed ps j

    pub blocks_renamed : (bs : List Block) → held_blocks k promise is_value is_slot (map (renamed_block r) bs) ≡ held_blocks m promise is_value is_slot bs
    blocks_renamed [] = refl
    blocks_renamed (b ∷ bs) = λ j. phis_renamed b.phis j ++ instrs_renamed b.instrs j ++ blocks_renamed bs j

  -- ---- with begins named

  module _ (n : ℕ) (other : is_value n ≡ false) where
    begin_named : (result : Option ℕ) (size : ℕ) → result ≡ None → if_result is_value (Some n) size ≡ if_result is_value result size
    begin_named result size e = ap (λ (b : Bool). if b then value_held n size ∷ [] else []) other ∙ sym (ap (λ (o : Option ℕ). if_result is_value o size) e)

    instr_named : (i : Instr) → result_of_call Intrinsic.CoroBegin i ≡ None → held_instr k promise is_value is_slot (named_instr n i) ≡ held_instr m promise is_value is_slot i
    instr_named (Instr.Call result must_tail ty (Callee.Intrinsic Intrinsic.CoroBegin) args) e =
        begin_named result (result_size (Instr.Call result must_tail ty (Callee.Intrinsic Intrinsic.CoroBegin) args)) e
    instr_named i e = instr_stays i

    instrs_named : (is : List Instr) → ((j : ℕ) (i : Instr) → slice_get is j ≡ Some i → result_of_call Intrinsic.CoroBegin i ≡ None) → held_instrs k promise is_value is_slot (map (named_instr n) is) ≡ held_instrs m promise is_value is_slot is
    instrs_named [] h = refl
    instrs_named (i ∷ is) h =
        let first = instr_named i (h 0 i refl) in
        let rest = instrs_named is (λ j x e. h (suc j) x e) in
        λ l. first l ++ rest l

    pub blocks_named : (bs : List Block) → ((c : ℕ) (b : Block) (j : ℕ) (i : Instr) → slice_get bs c ≡ Some b → slice_get b.instrs j ≡ Some i → result_of_call Intrinsic.CoroBegin i ≡ None) → held_blocks k promise is_value is_slot (map (named_block n) bs) ≡ held_blocks m promise is_value is_slot bs
    blocks_named [] h = refl
    blocks_named (b ∷ bs) h =
        let first = instrs_named b.instrs (λ j i e. h 0 b j i refl e) in
        let rest = blocks_named bs (λ c x j i d e. h (suc c) x j i d e) in
        λ l. held_phis is_value b.phis ++ first l ++ rest l

  -- ---- with saves written out

  module _ (c : Bool) (least : ℕ) (none : (n : ℕ) → least ≤ n → is_value n ≡ false) where
    saved_held : (n : ℕ) (i : Instr) → is_bare c i ≡ true → held_instr k promise is_value is_slot (saved n i) ≡ held_instr m promise is_value is_slot i
    saved_held n i e =
        let bare = bare_is c i e in
        ap (λ (x : Instr). held_instr k promise is_value is_slot (saved n x)) bare.is
        ∙ sym (ap (held_instr m promise is_value is_slot) bare.is)

    instrs_saved : (n : ℕ) (is : List Instr) → least ≤ n → held_instrs k promise is_value is_slot (with_saves c n is) ≡ held_instrs m promise is_value is_slot is
    instrs_saved n [] le = refl
    instrs_saved n (i ∷ is) le = on (is_bare c i) refl (instrs_saved (behind_save c n i) is (more (is_bare c i)))
      where
        more : (b : Bool) → least ≤ (if b then n + 1 else n)
        more true = omega arith
        more false = le

        rest : List Instr
        rest = with_saves c (behind_save c n i) is

        on : (b : Bool) → is_bare c i ≡ b → held_instrs k promise is_value is_slot (with_saves c (behind_save c n i) is) ≡ held_instrs m promise is_value is_slot is → held_instrs k promise is_value is_slot ((if b then save_call n ∷ saved n i ∷ [] else i ∷ []) ++ with_saves c (behind_save c n i) is) ≡ held_instrs m promise is_value is_slot (i ∷ is)
        on true e again =
            ap (λ (b : Bool). (if b then value_held n 0 ∷ [] else []) ++ (held_instr k promise is_value is_slot (saved n i) ++ held_instrs k promise is_value is_slot (with_saves c (behind_save c n i) is))) (none n le)
            ∙ (λ l. saved_held n i e l ++ again l)
        on false e again = λ l. instr_stays i l ++ again l

    more_saves : (n : ℕ) (is : List Instr) → least ≤ n → least ≤ behind_saves c n is
    more_saves n [] le = le
    more_saves n (i ∷ is) le = more_saves (behind_save c n i) is (on (is_bare c i))
      where
        on : (b : Bool) → least ≤ (if b then n + 1 else n)
        on true = omega arith
        on false = le

    pub blocks_saved : (n : ℕ) (bs : List Block) → least ≤ n → held_blocks k promise is_value is_slot (saved_blocks c n bs) ≡ held_blocks m promise is_value is_slot bs
    blocks_saved n [] le = refl
    blocks_saved n (b ∷ bs) le =
        let first = instrs_saved n b.instrs le in
        let rest = blocks_saved (behind_saves c n b.instrs) bs (more_saves n b.instrs le) in
        λ l. held_phis is_value b.phis ++ first l ++ rest l
