-- What a frame holds is taken from the names of its function in order, each with an alignment that fields may have.
use Rattle.std.proofs.Common.{◌≡◌, inl, inr, ⊎_elim, ℕ, zero, suc, Bool, true, false, List, [], ◌∷◌, ◌++◌, Option, None, Some, refl, sym, ap, ◌∙◌, subst}
use Rattle.std.specs.List.{list_all}
use Rattle.std.specs.Prelude.{map, option_to_list, slice_get, if◌then◌else◌, ◌==◌, ◌||◌}
use Rattle.pass_proofs.specs.flow_solver.Paths.{IsListed}
use Rattle.pass_proofs.specs.frame_contents.Held.{held_blocks, held_by, held_instrs, held_params, held_phis, if_result, if_value, result_size, slot_held, value_held, value_size}
use Rattle.pass_proofs.specs.frame_contents.declared.held.Holding.{Holding}
use Rattle.frame_good.specs.Good.{is_alignment}
use Rattle.frame_layout.specs.Layouts.{is_index, is_promise}
use Rattle.frame_layout.specs.declared.layout.FieldKind.{FieldKind}
use Rattle.pass_proofs.proofs.ir_laws.facts.Lists.{phi_names, row_of}
use Rattle.pass_proofs.proofs.ir_laws.facts.Truth.{and_first, and_second, equal_numbers, or_last}
use Rattle.pass_proofs.proofs.ir_laws.facts.names_apart.Words.{either as either_of}
use Rattle.pass_proofs.proofs.ir_laws.paths.source_rules.Locals.{Apart}
use Rattle.pass_proofs.proofs.rule_laws.rules.source_rules.Locals.{block_names, made_by}
use Rattle.pass_proofs.specs.ir_laws.facts.counted.Widths.{has_width, is_width}
use Rattle.ir_model.specs.Layout.{bytes_of_width}
use Rattle.ir_model.specs.Ty.{Ty, array, int, named, ptr, structure, token}
use Rattle.ir_model.specs.declared.instr.Instr.{Instr}
use Rattle.ir_model.specs.declared.instr.Phi.{Phi}
use Rattle.ir_model.specs.declared.module.Block.{Block}
use Rattle.ir_model.specs.declared.module.Function.{Function}
use Rattle.ir_model.specs.declared.module.Module.{Module}
use Rattle.ir_model.specs.declared.module.Param.{Param}
use Rattle.pass_proofs.specs.ir_parts.Contents.{arg_types, instr_types, result_of}
use Rattle.pass_proofs.specs.ir_paths.Slots.{has_name, promise_of}
use Rattle.pass_proofs.specs.rule_locals.Extents.{is_aligned}
use Rattle.pass_proofs.specs.rule_uses.Undefined.{params_of}
use Rattle.pass_proofs.specs.run_laws.changed.Changed.{Each}

-- ---- alignments

at_width : (w n : ℕ) → is_alignment (bytes_of_width n) ≡ true → (w == n) ≡ true
    → is_alignment (bytes_of_width w) ≡ true
at_width w n h e = subst (λ (x : ℕ). is_alignment (bytes_of_width x) ≡ true) (sym (equal_numbers w n e)) h

width_fits : (w : ℕ) → is_width w ≡ true → is_alignment (bytes_of_width w) ≡ true
width_fits w e =
    ⊎_elim (at_width w 1 refl)
    (λ a. ⊎_elim (at_width w 8 refl) (λ b. ⊎_elim (at_width w 16 refl)
    (λ c. ⊎_elim (at_width w 32 refl) (at_width w 64 refl) (either_of (w == 32) (w == 64) c))
    (either_of (w == 16) ((w == 32) || (w == 64)) b))
    (either_of (w == 8) ((w == 16) || ((w == 32) || (w == 64))) a))
    (either_of (w == 1) ((w == 8) || ((w == 16) || ((w == 32) || (w == 64)))) e)

value_fits : (t : Ty) → has_width t ≡ true → is_alignment (value_size t) ≡ true
value_fits (int w) e = width_fits w e
value_fits ptr e = refl
value_fits token e = refl
value_fits (array n t) e = refl
value_fits (structure ts) e = refl
value_fits (named n) e = refl

result_fits : (i : Instr) → list_all has_width (instr_types i) ≡ true → is_alignment (result_size i) ≡ true
result_fits (Instr.Binary r op flags ty a b) e = value_fits ty (and_first (has_width ty) true e)
result_fits (Instr.Icmp r pred ty a b) e = refl
result_fits (Instr.Select r c a b) e = value_fits a.ty (and_first (has_width a.ty) (list_all has_width (b.ty ∷ [])) e)
result_fits (Instr.Cast r op nneg a to) e = value_fits to
    (and_first (has_width to) true (and_second (has_width a.ty) (list_all has_width (to ∷ [])) e))
result_fits (Instr.Alloca r ty align) e = refl
result_fits (Instr.Load r ty x align) e = value_fits ty (and_first (has_width ty) true e)
result_fits (Instr.Store a x align) e = refl
result_fits (Instr.Gep r inbounds ty x args) e = refl
result_fits (Instr.Call r must_tail None callee args) e = refl
result_fits (Instr.Call r must_tail (Some ty) callee args) e = value_fits ty
    (and_first (has_width ty) (list_all has_width (arg_types args)) e)

-- ---- what is taken from names

-- it is aligned as fields may be, and no index; if it is the promise's, it has the promise's name
pub record IsWell (promise : Option ℕ) (h : Holding) : Type 0 where
  pub aligned : is_alignment h.align ≡ true
  pub no_index : is_index h.kind ≡ false
  pub promised : is_promise h.kind ≡ true → has_name (option_to_list promise) h.value ≡ true

pub data AreTaken (promise : Option ℕ) : List Holding → List ℕ → Type 0 where
  Ends : AreTaken promise [] []
  Taken : (h : Holding) (n : ℕ) (hs : List Holding) (ns : List ℕ) → h.value ≡ n → IsWell promise h
      → AreTaken promise hs ns → AreTaken promise (h ∷ hs) (n ∷ ns)
  Passed : (n : ℕ) (hs : List Holding) (ns : List ℕ) → AreTaken promise hs ns → AreTaken promise hs (n ∷ ns)

module _ (promise : Option ℕ) where
  joined : (hs ks : List Holding) (ns ms : List ℕ) → AreTaken promise hs ns → AreTaken promise ks ms
      → AreTaken promise (hs ++ ks) (ns ++ ms)
  joined _ ks _ ms Ends t = t
  joined _ ks _ ms (Taken h n hs ns e w s) t = Taken h n (hs ++ ks) (ns ++ ms) e w (joined hs ks ns ms s t)
  joined _ ks _ ms (Passed n hs ns s) t = Passed n (hs ++ ks) (ns ++ ms) (joined hs ks ns ms s t)

  pub well_at : (hs : List Holding) (ns : List ℕ) → AreTaken promise hs ns → (k : ℕ) (x : Holding)
      → slice_get hs k ≡ Some x → IsWell promise x
  well_at _ _ Ends k x there = absurd (cc)
  well_at _ _ (Taken h n hs ns e w s) zero x there = let same : h ≡ x = cc in subst (IsWell promise) same w
  well_at _ _ (Taken h n hs ns e w s) (suc k) x there = well_at hs ns s k x there
  well_at _ _ (Passed n hs ns s) k x there = well_at hs ns s k x there

  among : (hs : List Holding) (ns : List ℕ) → AreTaken promise hs ns → (k : ℕ) (x : Holding) → slice_get hs k ≡ Some x
      → IsListed x.value ns
  among _ _ Ends k x there = absurd (cc)
  among _ _ (Taken h n hs ns e w s) zero x there = let same : h ≡ x = cc in
      inl (sym (ap (λ (y : Holding). y.value) same) ∙ e)
  among _ _ (Taken h n hs ns e w s) (suc k) x there = inr (among hs ns s k x there)
  among _ _ (Passed n hs ns s) k x there = inr (among hs ns s k x there)

  -- of names that are apart each is taken once
  pub one_at : (hs : List Holding) (ns : List ℕ) → AreTaken promise hs ns → Apart ns → (j k : ℕ) (x y : Holding)
      → slice_get hs j ≡ Some x → slice_get hs k ≡ Some y → x.value ≡ y.value → j ≡ k
  one_at _ _ Ends a j k x y at there same = absurd (cc)
  one_at _ _ (Passed n hs ns s) a j k x y at there same = one_at hs ns s a.1 j k x y at there same
  one_at _ _ (Taken h n hs ns e w s) a zero zero x y at there same = refl
  one_at _ _ (Taken h n hs ns e w s) a zero (suc k) x y at there same =
      let own : h ≡ x = cc in
      absurd (a.0 (subst (λ (v : ℕ). IsListed v ns) (sym same ∙ sym (ap (λ (z : Holding). z.value) own) ∙ e)
      (among hs ns s k y there)))
  one_at _ _ (Taken h n hs ns e w s) a (suc j) zero x y at there same =
      let own : h ≡ y = cc in
      absurd (a.0 (subst (λ (v : ℕ). IsListed v ns) (same ∙ sym (ap (λ (z : Holding). z.value) own) ∙ e)
      (among hs ns s j x at)))
  one_at _ _ (Taken h n hs ns e w s) a (suc j) (suc k) x y at there same = ap suc
      (one_at hs ns s a.1 j k x y at there same)

  -- ---- of values

  one_taken : (is_value : ℕ → Bool) (v size : ℕ) → is_alignment size ≡ true
      → AreTaken promise (if_value is_value v size) (v ∷ [])
  one_taken is_value v size fits = on (is_value v)
    where
      on : (c : Bool) → AreTaken promise (if c then value_held v size ∷ [] else []) (v ∷ [])
      on true = Taken (value_held v size) v [] [] refl
          (record { aligned = fits; no_index = refl; promised = λ no. absurd (cc) }) Ends
      on false = Passed v [] [] Ends

  result_taken : (is_value : ℕ → Bool) (o : Option ℕ) (size : ℕ) → is_alignment size ≡ true
      → AreTaken promise (if_result is_value o size) (option_to_list o)
  result_taken is_value None size fits = Ends
  result_taken is_value (Some v) size fits = one_taken is_value v size fits

  pub params_taken : (is_value : ℕ → Bool) (ps : List Param) → list_all has_width (map (λ (p : Param). p.ty) ps) ≡ true
      → AreTaken promise (held_params is_value ps) (map (λ (p : Param). p.name) ps)
  params_taken is_value [] e = Ends
  params_taken is_value (p ∷ ps) e =
      let rest : Bool = list_all has_width (map (λ (q : Param). q.ty) ps) in
      joined (if_value is_value p.name (value_size p.ty)) (held_params is_value ps) (p.name ∷ [])
      (map (λ (q : Param). q.name) ps)
      (one_taken is_value p.name (value_size p.ty) (value_fits p.ty (and_first (has_width p.ty) rest e)))
      (params_taken is_value ps (and_second (has_width p.ty) rest e))

  phis_taken : (is_value : ℕ → Bool) (ps : List Phi) → Each (λ (p : Phi). has_width p.ty ≡ true) ps
      → AreTaken promise (held_phis is_value ps) (phi_names ps)
  phis_taken is_value [] h = Ends
  phis_taken is_value (p ∷ ps) h =
      joined (if_value is_value p.result (value_size p.ty)) (held_phis is_value ps) (p.result ∷ []) (phi_names ps)
      (one_taken is_value p.result (value_size p.ty) (value_fits p.ty h.0))
      (phis_taken is_value ps h.1)

  -- ---- of blocks

  module _ (m : Module) (is_value is_slot : ℕ → Bool) where
    -- the alignment of a slot is one that rules allow
    abbrev pub IsSlotAligned : Instr → Type 0
    IsSlotAligned (Instr.Alloca r ty align) = is_aligned align ≡ true
    IsSlotAligned i = Unit {0}

    abbrev pub IsFitInstr : Instr → Type 0
    IsFitInstr i = (list_all has_width (instr_types i) ≡ true) × IsSlotAligned i

    slot_well : (r : ℕ) (ty : Ty) (align : ℕ) → is_aligned align ≡ true
        → IsWell promise (slot_held m promise r ty align)
    slot_well r ty align e = on (has_name (option_to_list promise) r) refl
      where
        on : (c : Bool) → has_name (option_to_list promise) r ≡ c → IsWell promise (slot_held m promise r ty align)
        on true is = record {
          aligned = or_last (align == 0) (is_aligned align) e;
          no_index = ap (λ (b : Bool). is_index (if b then FieldKind.Promise else FieldKind.Slot)) is;
          promised = λ p. is;
        }
        on false is = record {
          aligned = or_last (align == 0) (is_aligned align) e;
          no_index = ap (λ (b : Bool). is_index (if b then FieldKind.Promise else FieldKind.Slot)) is;
          promised = λ p. let no : true ≡ false = sym p
              ∙ ap (λ (b : Bool). is_promise (if b then FieldKind.Promise else FieldKind.Slot)) is in absurd (cc);
        }

    instrs_taken : (is : List Instr) → Each IsFitInstr is
        → AreTaken promise (held_instrs m promise is_value is_slot is) (row_of made_by is)
    instrs_taken [] h = Ends
    instrs_taken (Instr.Alloca r ty align ∷ is) h =
        joined (if is_slot r then slot_held m promise r ty align ∷ [] else [])
        (held_instrs m promise is_value is_slot is) (r ∷ []) (row_of made_by is) (on (is_slot r))
        (instrs_taken is h.1)
      where
        on : (c : Bool) → AreTaken promise (if c then slot_held m promise r ty align ∷ [] else []) (r ∷ [])
        on true = Taken (slot_held m promise r ty align) r [] [] refl (slot_well r ty align h.0.1) Ends
        on false = Passed r [] [] Ends
    instrs_taken (i ∷ is) h =
        joined (if_result is_value (result_of i) (result_size i)) (held_instrs m promise is_value is_slot is)
        (made_by i) (row_of made_by is)
        (result_taken is_value (result_of i) (result_size i) (result_fits i h.0.0))
        (instrs_taken is h.1)

    pub record IsFitBlock (b : Block) : Type 0 where
      pub phis : Each (λ (p : Phi). has_width p.ty ≡ true) b.phis
      pub instrs : Each IsFitInstr b.instrs

    pub blocks_taken : (bs : List Block) → Each IsFitBlock bs
        → AreTaken promise (held_blocks m promise is_value is_slot bs) (row_of block_names bs)
    blocks_taken [] h = Ends
    blocks_taken (b ∷ bs) h =
        joined (held_phis is_value b.phis ++ held_instrs m promise is_value is_slot b.instrs)
        (held_blocks m promise is_value is_slot bs) (block_names b) (row_of block_names bs)
        (Passed b.label (held_phis is_value b.phis ++ held_instrs m promise is_value is_slot b.instrs)
        (phi_names b.phis ++ row_of made_by b.instrs)
        (joined (held_phis is_value b.phis) (held_instrs m promise is_value is_slot b.instrs) (phi_names b.phis)
        (row_of made_by b.instrs)
        (phis_taken is_value b.phis h.0.phis)
        (instrs_taken b.instrs h.0.instrs)))
        (blocks_taken bs h.1)

-- all that a frame holds is taken from the names that its function defines
pub held_taken : (m : Module) (f : Function) (is_value is_slot : ℕ → Bool)
    → list_all has_width (map (λ (p : Param). p.ty) f.params) ≡ true
    → Each (IsFitBlock (promise_of f) m is_value is_slot) f.blocks
    → AreTaken (promise_of f) (held_by m f is_value is_slot) (params_of f ++ row_of block_names f.blocks)
held_taken m f is_value is_slot params blocks =
    joined (promise_of f) (held_params is_value f.params) (held_blocks m (promise_of f) is_value is_slot f.blocks)
    (params_of f) (row_of block_names f.blocks)
    (params_taken (promise_of f) is_value f.params params)
    (blocks_taken (promise_of f) m is_value is_slot f.blocks blocks)
