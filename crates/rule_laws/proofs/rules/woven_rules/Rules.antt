-- Names and types that are known (rule N2), the depth of types (L1) and the types of calls (Y2).
use Rattle.std.proofs.Common.{◌≡◌, ◌⊎◌, inl, inr, ℕ, ◌+◌, ◌<◌, Bool, true, false, List, [], ◌∷◌, ◌++◌, refl, sym, ap, ◌∙◌}
use Rattle.std.specs.List.{list_all, list_any}
use Rattle.std.specs.Prelude.{None, Option, Some, is_some, map, not, option_to_list, ◌==◌, ◌&&◌, ◌||◌}
use Rattle.ir_laws.specs.ir_base.declared.outcome.Place.{Place}
use Rattle.rule_laws.proofs.rules.local_rules.Defined.{label_defined, value_defined}
use Rattle.rule_laws.proofs.rules.local_rules.Names.{numbers}
use Rattle.ir_laws.proofs.facts.Truth.{and_both, and_first, and_second, holds}
use Rattle.ir_laws.specs.flow_solver.Paths.{IsListed}
use Rattle.ir_parts.specs.Contents.{instr_operands, instr_types, part_labels, part_operands, part_types}
use Rattle.ir_parts.specs.Parts.{Ending, OfInstr, OfPhi, Part, Signature}
use Rattle.ir_laws.specs.ir_model.Ty.{Ty}
use Rattle.ir_laws.specs.ir_model.declared.instr.Incoming.{Incoming}
use Rattle.ir_laws.specs.ir_model.declared.instr.Instr.{Instr}
use Rattle.ir_laws.specs.ir_model.declared.module.Block.{Block}
use Rattle.ir_laws.specs.ir_model.declared.module.Function.{Function}
use Rattle.ir_laws.specs.ir_model.declared.module.Module.{Module}
use Rattle.ir_laws.specs.ir_model.declared.module.Param.{Param}
use Rattle.ir_laws.specs.ir_model.declared.operand.Arg.{Arg}
use Rattle.ir_laws.specs.ir_model.declared.operand.Callee.{Callee}
use Rattle.ir_laws.specs.ir_model.declared.operand.Intrinsic.{Intrinsic}
use Rattle.ir_laws.specs.ir_model.declared.operand.Operand.{Operand}
use Rattle.rule_locals.specs.Addresses.{is_indirect}
use Rattle.rule_names.specs.Known.{first_unknown, is_label, is_value, knows_callee, knows_called, knows_operand, knows_type, names_unknown, allocator_name}
use Rattle.rule_names.specs.declared.stage.Stage.{Stage}
use Rattle.ir_laws.specs.run_laws.changed.Changed.{Each}
use Rattle.rule_types.specs.Limits.{all_fit, breaks_limits, first_past, is_block_past}
use Rattle.rule_types.specs.Signatures.{are_wanted, calls_otherwise, first_otherwise, fits_callee, fits_named, is_result}
use Rattle.rule_types.specs.Wants.{allocator_params, allocator_result, intrinsic_params, intrinsic_result, is_basic, meets}
use Rattle.rule_types.specs.declared.wants.Demand.{Demand}
use Rattle.rule_types.specs.declared.wants.Wanted.{Wanted}
use Rattle.rule_values.specs.Kinds.{value_kind}
use Rattle.rule_values.specs.declared.kinds.Kind.{Kind}
use Rattle.rule_laws.proofs.rules.woven_rules.Carried.{Carries, carried}
use Rattle.rule_laws.proofs.rules.woven_rules.ValueKinds.{old_kind}
use Rattle.rule_laws.proofs.rules.woven_rules.Laid.{AreLaidBlocks, IsLike, IsSafe, KeptOne, NoPromise, NoneLaid, OneLaid, Remains, Renamed, Stayed, Unnamed, Valued, valued_old}
use Rattle.rule_laws.proofs.rules.woven_rules.Operands.{all_beside, args_types, instr_pairs, same_ending_types, same_incoming, same_labels, same_types, term_pairs}
use Rattle.ir_laws.proofs.facts.Members.{all_pass, each_turns}
use Rattle.rule_laws.specs.rules.woven_rules.Blocks.{IsWoven, is_copy, may_stand}
use Rattle.ir_laws.specs.facts.woven_rules.Pairs.{Empty, Pair, Pairwise}
use Rattle.rule_laws.specs.rules.woven_rules.Parts.{Alloca, Binary, Call, CalleeStays, Cast, Direct, Gep, Icmp, IncomingStays, Indirect, InstrStays, Load, Select, Store}
use Rattle.ir_laws.specs.facts.woven_rules.Parts.{ArgStays}
use Rattle.rule_laws.specs.rules.woven_rules.Weaving.{Weaving, goes_in, names_nothing}

-- ---- copies

-- what holds of copies holds of what may be called
pub of_copies : (P : Callee → Type 0) → P (Callee.Intrinsic Intrinsic.MemcpyI64) → P (Callee.Intrinsic Intrinsic.MemcpyI32) → (c : Callee) → is_copy c ≡ true → P c
of_copies P a b (Callee.Intrinsic Intrinsic.MemcpyI64) e = a
of_copies P a b (Callee.Intrinsic Intrinsic.MemcpyI32) e = b
of_copies P a b _ e = absurd (cc)

module _ (w : Weaving) (m : Module) (f g : Function) where
  abbrev pub Like : Operand → Operand → Type 0
  Like = IsLike w f g

  -- ---- the operands of what remains

  -- an operand in the place of an operand, or null
  abbrev pub OrNull : Operand → Operand → Type 0
  OrNull x y = Like x y ⊎ (y ≡ Operand.Null)

  or_null : (xs ys : List Operand) → Pairwise Like xs ys → Pairwise OrNull xs ys
  or_null _ _ Empty = Empty
  or_null _ _ (Pair x y xs ys h rest) = Pair x y xs ys (inl h) (or_null xs ys rest)

  stayed_all : (args : List Arg) → Each (λ (b : Arg). goes_in w b.value ≡ false) args → Pairwise OrNull (map (λ (a : Arg). a.value) args) (map (λ (a : Arg). a.value) args)
  stayed_all [] h = Empty
  stayed_all (a ∷ args) h = Pair a.value a.value (map (λ (a : Arg). a.value) args) (map (λ (a : Arg). a.value) args) (inl (Stayed a.value h.0)) (stayed_all args h.1)

  pub remain_pairs : (i j : Instr) → Remains w f g i j → Pairwise OrNull (instr_operands i) (instr_operands j)
  remain_pairs _ _ (KeptOne i j s mark) = or_null (instr_operands i) (instr_operands j) (instr_pairs Like i j s)
  remain_pairs _ _ (NoPromise r must_tail ty a p args h) =
      let rest : List Operand = map (λ (x : Arg). x.value) args in
      Pair a.value a.value (p.value ∷ rest) (Operand.Null ∷ rest) (inl (Stayed a.value h.0)) (Pair p.value Operand.Null rest rest (inr refl) (stayed_all args h.1))

  remain_types : (i j : Instr) → Remains w f g i j → instr_types j ≡ instr_types i
  remain_types _ _ (KeptOne i j s mark) = same_types Like i j s
  remain_types _ _ (NoPromise r must_tail ty a p args h) = refl

  pub incoming_pairs : (is js : List Incoming) → Pairwise (IncomingStays (λ (from : ℕ). Like)) is js → Pairwise Like (map (λ (i : Incoming). i.value) is) (map (λ (i : Incoming). i.value) js)
  incoming_pairs _ _ Empty = Empty
  incoming_pairs _ _ (Pair i j is js h rest) = Pair i.value j.value (map (λ (i : Incoming). i.value) is) (map (λ (i : Incoming). i.value) js) h.value (incoming_pairs is js rest)

  -- ---- N2

  labels_same : (v block : ℕ) (bs cs : List Block) → AreLaidBlocks w m f g block bs cs → list_any (λ (b : Block). b.label == v) cs ≡ list_any (λ (b : Block). b.label == v) bs
  labels_same v block _ _ (NoneLaid _) = refl
  labels_same v block _ _ (OneLaid _ b c bs cs s rest) = λ k. (s.label k == v) || labels_same v (block + 1) bs cs rest k

  module _ (k : ℕ) (h : IsWoven w m f g) (below : (v : ℕ) → IsListed v (numbers f) → v < w.first) (blocks : AreLaidBlocks w m f g 0 f.blocks g.blocks) where
    same_label : (v : ℕ) → is_label k g v ≡ is_label k f v
    same_label v = label_defined v k g ∙ labels_same v 0 f.blocks g.blocks blocks ∙ sym (label_defined v k f)

    pub value_valued : (v : ℕ) → is_value k f v ≡ true → is_some (value_kind f v) ≡ true
    value_valued v e = sym (value_defined v k f) ∙ e

    pub stays_valued : (v : ℕ) → w.goes v ≡ false → is_value k f v ≡ true → value_kind g v ≡ value_kind f v
    stays_valued v stays e = old_kind w m f g v (valued_old w m f g h below v (value_valued v e)) stays h

    same_known : (x : Operand) → goes_in w x ≡ false → knows_operand m (is_value k f) x ≡ true → knows_operand m (is_value k g) x ≡ true
    same_known (Operand.Local v) stays e = value_defined v k g ∙ ap (λ (o : Option Kind). is_some o) (stays_valued v stays e) ∙ value_valued v e
    same_known (Operand.Global n) stays e = e
    same_known (Operand.Number z) stays e = refl
    same_known Operand.True stays e = refl
    same_known Operand.False stays e = refl
    same_known Operand.Null stays e = refl
    same_known Operand.None stays e = refl
    same_known Operand.Poison stays e = refl

    known_like : (x y : Operand) → Like x y → knows_operand m (is_value k f) x ≡ true → knows_operand m (is_value k g) y ≡ true
    known_like _ _ (Stayed x stays) e = same_known x stays e
    known_like _ _ (Renamed v n same) e = value_defined n k g ∙ ap (λ (o : Option Kind). is_some o) same ∙ value_valued v e

    known_or_null : (x y : Operand) → OrNull x y → knows_operand m (is_value k f) x ≡ true → knows_operand m (is_value k g) y ≡ true
    known_or_null x y (inl s) e = known_like x y s e
    known_or_null x y (inr s) e = ap (knows_operand m (is_value k g)) s

    safe_known : (x : Operand) → IsSafe g x → knows_operand m (is_value k g) x ≡ true
    safe_known _ (Valued v e) = value_defined v k g ∙ e
    safe_known _ (Unnamed x e) = on x e
      where
        on : (x : Operand) → names_nothing x ≡ true → knows_operand m (is_value k g) x ≡ true
        on (Operand.Local v) e = absurd (cc)
        on (Operand.Global n) e = absurd (cc)
        on _ e = refl

    same_callee : (c d : Callee) → CalleeStays Like c d → knows_callee m d ≡ knows_callee m c
    same_callee _ _ (Direct c e) = refl
    same_callee _ _ (Indirect v n s) = refl

    called_kept : (i j : Instr) → InstrStays Like i j → knows_called m (OfInstr j) ≡ knows_called m (OfInstr i)
    called_kept _ _ (Call r must_tail ty c d args now s t) = same_callee c d s
    called_kept _ _ (Binary r op flags ty a b c d x y) = refl
    called_kept _ _ (Icmp r pred ty a b c d x y) = refl
    called_kept _ _ (Select r x y a b c d s t u) = refl
    called_kept _ _ (Cast r op nneg a c to s) = refl
    called_kept _ _ (Alloca r ty align) = refl
    called_kept _ _ (Load r ty x y align s) = refl
    called_kept _ _ (Store a c x y align s t) = refl
    called_kept _ _ (Gep r inbounds ty x y args now s t) = refl

    called_same : (i j : Instr) → Remains w f g i j → knows_called m (OfInstr j) ≡ knows_called m (OfInstr i)
    called_same _ _ (KeptOne i j s mark) = called_kept i j s
    called_same _ _ (NoPromise r must_tail ty a p args s) = refl

    put_called : (block : ℕ) (j : Instr) → may_stand block j ≡ true → knows_called m (OfInstr j) ≡ true
    put_called block (Instr.Call r must_tail ty c args) e = of_copies (λ (c : Callee). knows_callee m c ≡ true) refl refl c (and_second (not must_tail) (is_copy c) e)
    put_called block _ e = refl

    -- the operands of a part that names nothing unknown
    pub operands_known : (p : Place) (x : Part) → names_unknown m (is_value k f) (is_label k f) p x ≡ false → list_all (knows_operand m (is_value k f)) (part_operands x) ≡ true
    operands_known p x e =
        let rest : Bool = list_all (is_label k f) (part_labels x) && knows_called m x in
        and_first (list_all (knows_operand m (is_value k f)) (part_operands x)) rest
        (and_second (list_all (knows_type m) (part_types x)) (list_all (knows_operand m (is_value k f)) (part_operands x) && rest)
        (holds (list_all (knows_type m) (part_types x) && (list_all (knows_operand m (is_value k f)) (part_operands x) && rest)) e))

    -- the parts of what is asked
    knows : (types types2 : List Ty) (xs ys : List Operand) (labels labels2 : List ℕ) (a b : Bool) → types2 ≡ types → (list_all (knows_operand m (is_value k f)) xs ≡ true → list_all (knows_operand m (is_value k g)) ys ≡ true) → labels2 ≡ labels → b ≡ a → not (list_all (knows_type m) types && (list_all (knows_operand m (is_value k f)) xs && (list_all (is_label k f) labels && a))) ≡ false → not (list_all (knows_type m) types2 && (list_all (knows_operand m (is_value k g)) ys && (list_all (is_label k g) labels2 && b))) ≡ false
    knows types types2 xs ys labels labels2 a b t x l c e =
        let all = holds (list_all (knows_type m) types && (list_all (knows_operand m (is_value k f)) xs && (list_all (is_label k f) labels && a))) e in
        let rest = and_second (list_all (knows_type m) types) (list_all (knows_operand m (is_value k f)) xs && (list_all (is_label k f) labels && a)) all in
        let last = and_second (list_all (knows_operand m (is_value k f)) xs) (list_all (is_label k f) labels && a) rest in
        ap not
        (and_both (list_all (knows_type m) types2) (list_all (knows_operand m (is_value k g)) ys && (list_all (is_label k g) labels2 && b))
        (ap (list_all (knows_type m)) t ∙ and_first (list_all (knows_type m) types) (list_all (knows_operand m (is_value k f)) xs && (list_all (is_label k f) labels && a)) all)
        (and_both (list_all (knows_operand m (is_value k g)) ys) (list_all (is_label k g) labels2 && b)
        (x (and_first (list_all (knows_operand m (is_value k f)) xs) (list_all (is_label k f) labels && a) rest))
        (and_both (list_all (is_label k g) labels2) b
        (ap (list_all (is_label k g)) l ∙ ap (λ (test : ℕ → Bool). list_all test labels) (λ i v. same_label v i) ∙ and_first (list_all (is_label k f) labels) a last)
        (c ∙ and_second (list_all (is_label k f) labels) a last))))

    known_carried : Carries w m f g (names_unknown m (is_value k f) (is_label k f)) (names_unknown m (is_value k g) (is_label k g))
    known_carried =
        record {
          signature = λ p e. knows (part_types (Signature f)) (part_types (Signature g)) [] [] [] [] true true (λ i. option_to_list (h.result i) ++ map (λ (x : Param). x.ty) (h.params i)) (λ t. refl) refl refl e;
          head = λ p b c d e. refl;
          phi = λ p x y s once e.
              knows (x.ty ∷ []) (y.ty ∷ []) (part_operands (OfPhi x)) (part_operands (OfPhi y)) (part_labels (OfPhi x)) (part_labels (OfPhi y)) true true (λ i. s.ty i ∷ [])
              (all_beside Like (knows_operand m (is_value k f)) (knows_operand m (is_value k g)) known_like (part_operands (OfPhi x)) (part_operands (OfPhi y)) (incoming_pairs x.incoming y.incoming s.incoming))
              (same_incoming (λ (from : ℕ). Like) x.incoming y.incoming s.incoming) refl e;
          put = λ block q j e s.
              ap not
              (and_both (list_all (knows_type m) (instr_types j)) (list_all (knows_operand m (is_value k g)) (instr_operands j) && (true && knows_called m (OfInstr j))) s.types
              (and_both (list_all (knows_operand m (is_value k g)) (instr_operands j)) (true && knows_called m (OfInstr j))
              (all_pass (knows_operand m (is_value k g)) (instr_operands j) (each_turns (IsSafe g) (λ (x : Operand). knows_operand m (is_value k g) x ≡ true) safe_known (instr_operands j) s.operands))
              (put_called block j s.stands)));
          remain = λ p q i j same s e.
              knows (instr_types i) (instr_types j) (instr_operands i) (instr_operands j) [] [] (knows_called m (OfInstr i)) (knows_called m (OfInstr j)) (remain_types i j s)
              (all_beside OrNull (knows_operand m (is_value k f)) (knows_operand m (is_value k g)) known_or_null (instr_operands i) (instr_operands j) (remain_pairs i j s))
              refl (called_same i j s) e;
          ending = λ p q t u s e.
              knows (part_types (Ending t)) (part_types (Ending u)) (part_operands (Ending t)) (part_operands (Ending u)) (part_labels (Ending t)) (part_labels (Ending u)) true true (same_ending_types Like t u s)
              (all_beside Like (knows_operand m (is_value k f)) (knows_operand m (is_value k g)) known_like (part_operands (Ending t)) (part_operands (Ending u)) (term_pairs Like t u s))
              (same_labels Like t u s) refl e;
        }

    pub known_woven : first_unknown m k f ≡ None → first_unknown m k g ≡ None
    known_woven = carried w m f g (names_unknown m (is_value k f) (is_label k f)) (names_unknown m (is_value k g) (is_label k g)) known_carried k blocks

    -- ---- L1

    no_block : (o : Option ℕ) → is_block_past Stage.Plain o ≡ false
    no_block None = refl
    no_block (Some n) = refl

    deep : (p q : Place) (types types2 : List Ty) → types2 ≡ types → (is_block_past Stage.Plain p.block || not (all_fit m types)) ≡ false → (is_block_past Stage.Plain q.block || not (all_fit m types2)) ≡ false
    deep p q types types2 same e =
        (λ i. no_block q.block i || not (all_fit m (same i))) ∙ sym (ap (λ (b : Bool). b || not (all_fit m types)) (no_block p.block)) ∙ e

    depths_carried : Carries w m f g (breaks_limits Stage.Plain m None) (breaks_limits Stage.Plain m None)
    depths_carried =
        record {
          signature = λ p e. deep p p (part_types (Signature f)) (part_types (Signature g)) (λ i. option_to_list (h.result i) ++ map (λ (x : Param). x.ty) (h.params i)) e;
          head = λ p b c d e. e;
          phi = λ p x y s once e. deep p p (x.ty ∷ []) (y.ty ∷ []) (λ i. s.ty i ∷ []) e;
          put = λ block q j e s. (λ i. no_block q.block i || not (all_fit m (instr_types j))) ∙ ap not s.depths;
          remain = λ p q i j same s e. deep p q (instr_types i) (instr_types j) (remain_types i j s) e;
          ending = λ p q t u s e. deep p q (part_types (Ending t)) (part_types (Ending u)) (same_ending_types Like t u s) e;
        }

    pub depths_woven : first_past Stage.Plain m k f ≡ None → first_past Stage.Plain m k g ≡ None
    depths_woven = carried w m f g (breaks_limits Stage.Plain m None) (breaks_limits Stage.Plain m None) depths_carried k blocks

    -- ---- Y2

    meets_like : (d : Demand) (x y : Operand) → Like x y → meets d y ≡ meets d x
    meets_like d _ _ (Stayed x stays) = refl
    meets_like Demand.Any _ _ (Renamed v n same) = refl
    meets_like Demand.Number _ _ (Renamed v n same) = refl
    meets_like Demand.Flag _ _ (Renamed v n same) = refl
    meets_like Demand.Align _ _ (Renamed v n same) = refl
    meets_like Demand.AlignOrZero _ _ (Renamed v n same) = refl
    meets_like Demand.False _ _ (Renamed v n same) = refl
    meets_like Demand.Null _ _ (Renamed v n same) = refl
    meets_like Demand.None _ _ (Renamed v n same) = refl

    wanted_like : (ws : List Wanted) (xs ys : List Arg) → Pairwise (ArgStays Like) xs ys → are_wanted ws ys ≡ are_wanted ws xs
    wanted_like ws _ _ Empty = refl
    wanted_like [] _ _ (Pair x y xs ys s rest) = refl
    wanted_like (d ∷ ws) _ _ (Pair x y xs ys s rest) = λ i. (is_basic d.ty (s.ty i) && meets_like d.value x.value y.value s.value i) && wanted_like ws xs ys rest i

    direct_fits : (ty : Option Ty) (c : Callee) (xs ys : List Arg) → is_indirect c ≡ false → Pairwise (ArgStays Like) xs ys → fits_callee m ty ys c ≡ fits_callee m ty xs c
    direct_fits ty (Callee.Local v) xs ys e s = refl
    direct_fits ty (Callee.Named n) xs ys e s = ap (λ (ts : List Ty). fits_named m ty ts n) (args_types Like xs ys s)
    direct_fits ty (Callee.Allocator a) xs ys e s = λ i. (is_result (allocator_result a) ty && wanted_like (allocator_params a) xs ys s i) && fits_named m ty (args_types Like xs ys s i) (allocator_name a)
    direct_fits ty (Callee.Intrinsic n) xs ys e s = λ i. is_result (intrinsic_result n) ty && wanted_like (intrinsic_params n) xs ys s i

    callee_fits : (ty : Option Ty) (c d : Callee) (xs ys : List Arg) → CalleeStays Like c d → Pairwise (ArgStays Like) xs ys → fits_callee m ty ys d ≡ fits_callee m ty xs c
    callee_fits ty _ _ xs ys (Direct c e) s = direct_fits ty c xs ys e s
    callee_fits ty _ _ xs ys (Indirect v n t) s = refl

    otherwise_kept : (p q : Place) (i j : Instr) → InstrStays Like i j → calls_otherwise m q (OfInstr j) ≡ calls_otherwise m p (OfInstr i)
    otherwise_kept p q _ _ (Call r must_tail ty c d args now s t) = ap not (callee_fits ty c d args now s t)
    otherwise_kept p q _ _ (Binary r op flags ty a b c d x y) = refl
    otherwise_kept p q _ _ (Icmp r pred ty a b c d x y) = refl
    otherwise_kept p q _ _ (Select r x y a b c d s t u) = refl
    otherwise_kept p q _ _ (Cast r op nneg a c to s) = refl
    otherwise_kept p q _ _ (Alloca r ty align) = refl
    otherwise_kept p q _ _ (Load r ty x y align s) = refl
    otherwise_kept p q _ _ (Store a c x y align s t) = refl
    otherwise_kept p q _ _ (Gep r inbounds ty x y args now s t) = refl

    otherwise_same : (p q : Place) (i j : Instr) → Remains w f g i j → calls_otherwise m q (OfInstr j) ≡ calls_otherwise m p (OfInstr i)
    otherwise_same p q _ _ (KeptOne i j s mark) = otherwise_kept p q i j s
    otherwise_same p q _ _ (NoPromise r must_tail ty a x args s) = refl

    otherwise_carried : Carries w m f g (calls_otherwise m) (calls_otherwise m)
    otherwise_carried =
        record {
          signature = λ p e. refl;
          head = λ p b c d e. refl;
          phi = λ p x y s once e. refl;
          put = λ block q j e s. s.calls q;
          remain = λ p q i j same s e. otherwise_same p q i j s ∙ e;
          ending = λ p q t u s e. refl;
        }

    pub calls_woven : first_otherwise m k f ≡ None → first_otherwise m k g ≡ None
    calls_woven = carried w m f g (calls_otherwise m) (calls_otherwise m) otherwise_carried k blocks
