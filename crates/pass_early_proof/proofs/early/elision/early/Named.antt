-- Elidable coroutines whose begin's value gets a name.
use Rattle.std.proofs.Common.{◌≡◌, ℕ, zero, suc, ◌<◌, Bool, true, false, cond, List, [], ◌∷◌, ◌++◌, length, Some, None, Option, refl, sym, ap, ◌∙◌, subst, ◌↔◌, arith}
use Rattle.std.proofs.lemmas.Bool.{eqb-true}
use Rattle.std.proofs.lemmas.Option.{slice_get-map}
use Rattle.std.specs.List.{list_all, list_any}
use Rattle.std.specs.Prelude.{count_by, find, flat_map, map, option_and_then, option_map, slice_get, ◌-◌, ◌&&◌, ◌||◌, ◌==◌, if◌then◌else◌}
use Rattle.pass_early_proof.proofs.early.begin_naming.NamedParts.{call_of_same, same_but_begin, with_begin}
use Rattle.rule_laws.specs.flow_blocks.Kinds.{kind_of_ending, suspended}
use Rattle.rule_laws.specs.ir_calls.Calls.{is_null}
use Rattle.rule_laws.specs.rule_shape.Uses.{phi_operands, uses_of}
use Rattle.run_states.proofs.renamed.Modules.{length_same}
use Rattle.pass_early_proof.proofs.early.elision.early.Alike.{IsPhiAlike, elidable_same, given_alike}
use Rattle.rule_laws.proofs.ir_laws.facts.Lists.{map_none}
use Rattle.pass_early_proof.proofs.early.elision.early.Mapped.{IsChange, change_alike}
use Rattle.pass_early.specs.BeginName.{begin_name, if_unnamed, named_block, named_instr, with_begin_name}
use Rattle.elide_sites.specs.elide_shape.Calls.{deals_by, gives_size, is_size_value}
use Rattle.elide_sites.specs.elide_shape.Frames.{all_from, frame_value, is_frame, returns_frame}
use Rattle.elide_sites.specs.elide_shape.Frees.{is_null_test, not_null_first, sides_of}
use Rattle.elide_sites.specs.elide_shape.Edges.{ways_on}
use Rattle.elide_sites.specs.elide_shape.Phis.{given, is_given, same_given}
use Rattle.elide_sites.specs.Elidable.{IsElidable}
use Rattle.rule_laws.specs.ir_parts.Contents.{instr_operands}
use Rattle.ir_model.specs.Calls.{first_result, first_result_by, first_result_in, result_of_call}
use Rattle.ir_model.specs.Names.{is_local, position_of}
use Rattle.ir_model.specs.declared.instr.Incoming.{Incoming}
use Rattle.ir_model.specs.declared.instr.Instr.{Instr}
use Rattle.ir_model.specs.declared.instr.Phi.{Phi}
use Rattle.ir_model.specs.declared.instr.Terminator.{Terminator}
use Rattle.ir_model.specs.declared.module.Block.{Block}
use Rattle.ir_model.specs.declared.module.Function.{Function}
use Rattle.ir_model.specs.declared.operand.Callee.{Callee}
use Rattle.ir_model.specs.declared.operand.Intrinsic.{Intrinsic}
use Rattle.ir_model.specs.declared.operand.Operand.{Operand}
use Rattle.rule_laws.specs.ir_paths.Windows.{call_operand, call_result, instr_at, instr_in, is_call_of}
use Rattle.rule_laws.specs.ir_paths.declared.point.Point.{Point}
use Rattle.rule_laws.specs.run_laws.changed.Changed.{Each, operands_of_term, result_of, Each as EachOperand}
use Rattle.rule_laws.specs.ir_laws.facts.expanded.Tokens.{IsNamed, IsNamedResult}
use Rattle.rule_laws.specs.ir_laws.facts.sound_states.Named.{HasNamedLocals, HasNamedResults, HasNamedUses}
use Rattle.rule_laws.proofs.ir_laws.facts.Options.{left_none, right_none}

-- ---- lists

pub any_both : {X : Type 0} (t : X → Bool) (xs ys : List X) → list_any t (xs ++ ys) ≡ (list_any t xs || list_any t ys)
any_both t [] ys = refl
any_both t (x ∷ xs) ys = on (t x) (any_both t xs ys)
  where
    on : (b : Bool) → list_any t (xs ++ ys) ≡ (list_any t xs || list_any t ys) → (b || list_any t (xs ++ ys)) ≡ ((b || list_any t xs) || list_any t ys)
    on true e = refl
    on false e = e

pub each_at : {X : Type 0} (Q : X → Type 0) (xs : List X) (k : ℕ) (x : X) → Each Q xs → slice_get xs k ≡ Some x → Q x
each_at Q [] k x h e = absurd (cc)
each_at Q (y ∷ xs) zero x h e = let s : y ≡ x = cc in subst Q s h.0
each_at Q (y ∷ xs) (suc k) x h e = each_at Q xs k x h.1 e

pub each_by : {X : Type 0} (Q R : X → Type 0) (xs : List X) → ((x : X) → Q x → R x) → Each Q xs → Each R xs
each_by Q R [] h e = tt
each_by Q R (x ∷ xs) h e = (h x e.0, each_by Q R xs h e.1)

pub call_made : (i : Instr) (v : ℕ) → call_result i ≡ Some v → result_of i ≡ Some v
call_made (Instr.Call result must_tail ty callee args) v e = e
call_made _ v e = absurd (cc)

-- what an instruction of a function makes is a position of its table of names
pub made_named : (f : Function) → HasNamedResults f → (p : Point) (i : Instr) (v : ℕ) → instr_at f p ≡ Some i → result_of i ≡ Some v → v < length f.names
made_named f named p i v e r = on (slice_get f.blocks p.block) refl e
  where
    on : (o : Option Block) → slice_get f.blocks p.block ≡ o → instr_in o p.at ≡ Some i → v < length f.names
    on None b h = absurd (cc)
    on (Some b) s h =
        subst (IsNamedResult (length f.names)) r
        (each_at (λ (x : Instr). IsNamedResult (length f.names) (result_of x)) b.instrs p.at i
        (each_at (λ (c : Block). Each (λ (x : Instr). IsNamedResult (length f.names) (result_of x)) c.instrs) f.blocks p.block b named s) h)

module _ (f : Function) (locals : HasNamedLocals f) (used : HasNamedUses f) (none : first_result Intrinsic.CoroBegin f ≡ None) where
  abbrev n : ℕ
  n = length f.names

  abbrev I : Instr → Instr
  I = named_instr n

  abbrev g : Function
  g = with_begin n f

  abbrev IsName : ℕ → Type 0
  IsName v = v < n

  -- ---- the values that are the frame's address

  frame_value_same : (v : ℕ) → v < n → (i : Instr) → result_of_call Intrinsic.CoroBegin i ≡ None → list_any (is_local v) (frame_value (I i)) ≡ list_any (is_local v) (frame_value i)
  frame_value_same v lt (Instr.Call None must_tail ty (Callee.Intrinsic Intrinsic.CoroBegin) args) e = on (v == n) refl
    where
      on : (b : Bool) → (v == n) ≡ b → (b || false) ≡ false
      on true h = let same = eqb-true v n h in absurd (omega (arith, same, lt))
      on false h = refl
  frame_value_same v lt (Instr.Call (Some m) must_tail ty (Callee.Intrinsic Intrinsic.CoroBegin) args) e = absurd (cc)
  frame_value_same v lt i e = refl

  instrs_frames : (v : ℕ) → v < n → (is : List Instr) → first_result_in Intrinsic.CoroBegin is ≡ None → list_any (is_local v) (flat_map frame_value (map I is)) ≡ list_any (is_local v) (flat_map frame_value is)
  instrs_frames v lt [] e = refl
  instrs_frames v lt (i ∷ is) e =
      any_both (is_local v) (frame_value (I i)) (flat_map frame_value (map I is))
      ∙ (λ k. frame_value_same v lt i (left_none (result_of_call Intrinsic.CoroBegin i) (first_result_in Intrinsic.CoroBegin is) e) k || instrs_frames v lt is (right_none (result_of_call Intrinsic.CoroBegin i) (first_result_in Intrinsic.CoroBegin is) e) k)
      ∙ sym (any_both (is_local v) (frame_value i) (flat_map frame_value is))

  blocks_frames : (v : ℕ) → v < n → (bs : List Block) → first_result_by Intrinsic.CoroBegin bs ≡ None → list_any (is_local v) (all_from frame_value (map (named_block n) bs)) ≡ list_any (is_local v) (all_from frame_value bs)
  blocks_frames v lt [] e = refl
  blocks_frames v lt (b ∷ bs) e =
      any_both (is_local v) (flat_map frame_value (map I b.instrs)) (all_from frame_value (map (named_block n) bs))
      ∙ (λ k. instrs_frames v lt b.instrs (left_none (first_result_in Intrinsic.CoroBegin b.instrs) (first_result_by Intrinsic.CoroBegin bs) e) k || blocks_frames v lt bs (right_none (first_result_in Intrinsic.CoroBegin b.instrs) (first_result_by Intrinsic.CoroBegin bs) e) k)
      ∙ sym (any_both (is_local v) (flat_map frame_value b.instrs) (all_from frame_value bs))

  frame_same : (x : Operand) → IsNamed n x → is_frame g x ≡ is_frame f x
  frame_same (Operand.Local v) lt = blocks_frames v lt f.blocks none
  frame_same (Operand.Global k) lt = refl
  frame_same (Operand.Number z) lt = refl
  frame_same Operand.True lt = refl
  frame_same Operand.False lt = refl
  frame_same Operand.Null lt = refl
  frame_same Operand.None lt = refl
  frame_same Operand.Poison lt = refl

  returns_same : (t : Terminator) → EachOperand (IsNamed n) (operands_of_term t) → returns_frame g t ≡ returns_frame f t
  returns_same (Terminator.Ret None) h = refl
  returns_same (Terminator.Ret (Some a)) h = frame_same a.value h.0
  returns_same (Terminator.Jump label) h = refl
  returns_same (Terminator.Branch x a b) h = refl
  returns_same (Terminator.Switch arg default cases) h = refl
  returns_same Terminator.Unreachable h = refl

  rets_same : (bs : List Block) → Each (λ (b : Block). EachOperand (IsNamed n) (operands_of_term b.term)) bs → list_all (λ b. returns_frame g b.term) (map (named_block n) bs) ≡ list_all (λ b. returns_frame f b.term) bs
  rets_same [] h = refl
  rets_same (b ∷ bs) h = λ k. returns_same b.term h.0 k && rets_same bs h.1 k

  -- ---- the change

  kept_result : (i : Instr) → is_call_of Intrinsic.CoroBegin i ≡ false → call_result (I i) ≡ call_result i
  kept_result (Instr.Call result must_tail ty (Callee.Intrinsic Intrinsic.CoroBegin) args) e = absurd (cc)
  kept_result i e = refl

  suspended_same : (is : List Instr) → suspended (map I is) ≡ suspended is
  suspended_same is =
      ap (λ (k : ℕ). option_and_then (result_of_call Intrinsic.CoroSuspend) (slice_get (map I is) (k - 1))) (length_same I is)
      ∙ ap (option_and_then (result_of_call Intrinsic.CoroSuspend)) (slice_get-map I is (length is - 1))
      ∙ on (slice_get is (length is - 1))
    where
      on : (o : Option Instr) → option_and_then (result_of_call Intrinsic.CoroSuspend) (option_map I o) ≡ option_and_then (result_of_call Intrinsic.CoroSuspend) o
      on None = refl
      on (Some i) = same_but_begin n (result_of_call Intrinsic.CoroSuspend) (λ result must_tail ty args. refl) i

  given_same : ((l : ℕ) → position_of g l ≡ position_of f l) → (k : ℕ) (p : Phi) → given g k p ≡ given f k p
  given_same position k p = λ j. option_map (λ i. i.value) (find (λ i. position i.from j == k) p.incoming)

  -- what a phi gives is among the names
  given_named : (t : Incoming → Bool) (xs : List Incoming) → Each (λ (i : Incoming). IsNamed n i.value) xs → (x : Operand) → option_map (λ i. i.value) (find t xs) ≡ Some x → IsNamed n x
  given_named t [] h x e = absurd (cc)
  given_named t (i ∷ xs) h x e = on (t i) e (given_named t xs h.1 x)
    where
      on : (b : Bool) → option_map (λ i. i.value) (cond b (Some i) (find t xs)) ≡ Some x → (option_map (λ i. i.value) (find t xs) ≡ Some x → IsNamed n x) → IsNamed n x
      on true e again = let same : i.value ≡ x = cc in subst (IsNamed n) same h.0
      on false e again = again e

  abbrev HasNamedGiven : Phi → Type 0
  HasNamedGiven p = Each (λ (i : Incoming). IsNamed n i.value) p.incoming

  module _ (position : (l : ℕ) → position_of g l ≡ position_of f l) (uses : (v : ℕ) → IsName v → uses_of g v ≡ uses_of f v) where
    frame_given : (k : ℕ) (p : Phi) → HasNamedGiven p → (x : Operand) → given f k p ≡ Some x → is_frame g x ≡ is_frame f x
    frame_given k p named x e = frame_same x (given_named (λ i. position_of f i.from == k) p.incoming named x e)

    phi_same : (p : Phi) → p.result < n → HasNamedGiven p → IsPhiAlike f g (λ p. p) IsName (λ p. p) p
    phi_same p lt named = record {
      result = refl;
      name = lt;
      gives = λ a d. (λ j. same_given g (given_same position a p j) (given_same position d p j)) ∙ given_alike f g (given f a p) (given f d p) (frame_given a p named) (frame_given d p named);
      memory = λ a d m name. λ j. is_given is_null (given_same position a p j) && (is_given (is_local m) (given_same position d p j) && (uses m name j == count_by (is_local m) (phi_operands p)));
    }

    phis_same : (ps : List Phi) → Each (λ (p : Phi). p.result < n) ps → Each HasNamedGiven ps → Each (IsPhiAlike f g (λ p. p) IsName (λ p. p)) ps
    phis_same [] lt named = tt
    phis_same (p ∷ ps) lt named = (phi_same p lt.0 named.0, phis_same ps lt.1 named.1)

  same_sides : (p : Point) (i : Instr) → instr_at f p ≡ Some i → (v : ℕ) (t : Terminator) → ((c : ℕ) → IsName c → uses_of g c ≡ uses_of f c) → sides_of g v (Some i) t ≡ sides_of f v (Some i) t
  same_sides p (Instr.Icmp c pred ty a b) e v t uses =
      let lt = made_named f locals.results p (Instr.Icmp c pred ty a b) c e refl in
      λ j. if is_null_test v a b && (uses c lt j == 1) then not_null_first pred (ways_on (Some c) t) else None
  same_sides p (Instr.Call result must_tail ty callee args) e v t uses = refl
  same_sides p (Instr.Binary name op flags ty a b) e v t uses = refl
  same_sides p (Instr.Select name x a b) e v t uses = refl
  same_sides p (Instr.Cast name op nneg arg to) e v t uses = refl
  same_sides p (Instr.Alloca name ty align) e v t uses = refl
  same_sides p (Instr.Load name ty address align) e v t uses = refl
  same_sides p (Instr.Store arg address align) e v t uses = refl
  same_sides p (Instr.Gep name inbounds ty base indices) e v t uses = refl

  is_change : IsChange f (f.names ++ begin_name ∷ []) (λ ps. ps) (λ p. p) I (λ t. t) IsName
  is_change = record {
    phis = λ ps. sym (map_none ps);
    call_of = call_of_same n;
    deals = λ d i. same_but_begin n (deals_by d) (λ result must_tail ty args. refl) i;
    result = kept_result;
    size = λ v i. same_but_begin n (gives_size v) (λ result must_tail ty args. refl) i;
    operand = λ v k i name. same_but_begin n (λ x. is_local v (call_operand x k)) (λ result must_tail ty args. refl) i;
    instr_uses = λ v i name. same_but_begin n (λ x. count_by (is_local v) (instr_operands x)) (λ result must_tail ty args. refl) i;
    phi_uses = λ v p name. refl;
    term_uses = λ v t name. refl;
    sized = λ i. same_but_begin n (λ x. is_size_value f (call_operand x 0)) (λ result must_tail ty args. refl) i;
    rets = rets_same f.blocks used.ends;
    ways = λ v t name. refl;
    jumps = λ k t. refl;
    targets_stay = λ t. refl;
    kinds = λ k b e at. ap (λ (v : Option ℕ). kind_of_ending v b.term at) (suspended_same b.instrs);
    tests = λ p i e v t name uses. same_but_begin n (λ x. sides_of g v (Some x) t) (λ result must_tail ty args. refl) i ∙ same_sides p i e v t uses;
    made = λ p i v e begin frame r. made_named f locals.results p i v e (call_made i v r);
    phis_alike = λ position uses k b e.
        phis_same position uses b.phis
        (each_at (λ (c : Block). Each (λ (p : Phi). p.result < n) c.phis) f.blocks k b locals.phis e)
        (each_at (λ (c : Block). Each HasNamedGiven c.phis) f.blocks k b used.incoming e);
  }

  pub begin_elidable : IsElidable f ↔ IsElidable g
  begin_elidable = elidable_same f g (λ p. p) IsName (λ p. p) (change_alike f (f.names ++ begin_name ∷ []) (λ ps. ps) (λ p. p) I (λ t. t) IsName is_change)

pub named_elidable : (f : Function) → HasNamedLocals f → HasNamedUses f → IsElidable f ↔ IsElidable (with_begin_name f)
named_elidable f locals used = on (first_result Intrinsic.CoroBegin f) refl
  where
    on : (o : Option ℕ) → first_result Intrinsic.CoroBegin f ≡ o → IsElidable f ↔ IsElidable (if_unnamed o f)
    on None e = begin_elidable f locals used e
    on (Some n) e = ((λ h. h), (λ h. h))
