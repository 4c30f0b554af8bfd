-- The locals that the result defines are apart, where those of the source are (rule N1).
use Rattle.std.proofs.Common.{◌≡◌, ◌⊎◌, inl, inr, ⊎_elim, ℕ, zero, suc, ◌+◌, ◌<◌, ◌≤◌, Bool, true, false, List, [], ◌∷◌, ◌++◌, length, refl, sym, ap, ◌∙◌, subst, arith}
use Rattle.std.specs.Prelude.{None, Option, Some, map, option_to_list, slice_get, if◌then◌else◌}
use Rattle.rule_laws.specs.rule_uses.Undefined.{params_of}
use Rattle.rule_laws.proofs.rules.local_rules.Woven.{New, Old, Woven, apart_names, apart_woven, joined_woven, listed_woven, none_twice, same_woven, woven_as}
use Rattle.pass_early.specs.BeginName.{begin_name, begin_named, if_unnamed, named_block, named_instr, with_begin_name}
use Rattle.pass_early.specs.Early.{after_blocks, after_instrs, after_one, early_block, early_blocks, early_coroutine, early_instrs, early_named, is_unsaved, renaming_of, save_call, saved}
use Rattle.pass_early.specs.Renaming.{renamed_instr, renamed_phi}
use Rattle.pass_early.specs.declared.renaming.Renaming.{Renaming}
use Rattle.rule_laws.proofs.ir_laws.paths.source_rules.Locals.{Apart}
use Rattle.rule_laws.proofs.rules.source_rules.Locals.{block_names, made_by, names_are}
use Rattle.rule_laws.proofs.ir_laws.facts.Lists.{phi_names, row_of}
use Rattle.rule_laws.proofs.rules.source_rules.Once.{one_begin}
use Rattle.rule_laws.proofs.rules.source_rules.Order.{IsUnbroken}
use Rattle.rule_laws.specs.rules.source_rules.Named.{HasTabledLocals}
use Rattle.rule_laws.specs.flow_solver.Paths.{IsListed}
use Rattle.rule_laws.specs.ir_parts.Locals.{locals_of}
use Rattle.ir_model.specs.Calls.{first_result, first_result_by, first_result_in, result_of_call}
use Rattle.ir_model.specs.declared.instr.Instr.{Instr}
use Rattle.ir_model.specs.declared.instr.Phi.{Phi}
use Rattle.ir_model.specs.declared.module.Block.{Block}
use Rattle.ir_model.specs.declared.module.Function.{Function}
use Rattle.ir_model.specs.declared.module.Module.{Module}
use Rattle.ir_model.specs.declared.operand.Callee.{Callee}
use Rattle.ir_model.specs.declared.operand.Intrinsic.{Intrinsic}
use Rattle.rule_laws.specs.ir_paths.Windows.{instr_in, is_call_of}
use Rattle.rule_laws.specs.ir_paths.declared.point.Point.{Point}
use Rattle.rule_laws.specs.rule_names.Definitions.{first_twice}
use Rattle.rule_laws.specs.run_laws.changed.Changed.{Each}
use Rattle.rule_laws.proofs.ir_laws.facts.Options.{left_none, right_none}
use Rattle.rule_laws.proofs.rules.local_rules.Names.{is_definition, numbers}

-- ---- saves

module _ (r : Renaming) where
  made_same : (i : Instr) → made_by (renamed_instr r i) ≡ made_by i
  made_same (Instr.Call result must_tail ty callee args) = refl
  made_same _ = refl

  saved_same : (n : ℕ) (i : Instr) → made_by (saved n i) ≡ made_by i
  saved_same n (Instr.Call result must_tail ty callee args) = refl
  saved_same n _ = refl

  one_woven : (b : Bool) (k l : ℕ) (i : Instr) (xs : List ℕ) (rest : List Instr) → Woven (if b then k + 1 else k) xs l (row_of made_by rest) → Woven k (made_by i ++ xs) l (row_of made_by ((if b then save_call k ∷ saved k (renamed_instr r i) ∷ [] else renamed_instr r i ∷ []) ++ rest))
  one_woven true k l i xs rest w =
      New k l (made_by i ++ xs) (made_by (saved k (renamed_instr r i)) ++ row_of made_by rest)
      (woven_as (k + 1) l (made_by i ++ xs) (made_by i ++ row_of made_by rest) (made_by i ++ xs) (made_by (saved k (renamed_instr r i)) ++ row_of made_by rest) refl
      (ap (λ l. l ++ row_of made_by rest) (sym (saved_same k (renamed_instr r i) ∙ made_same i)))
      (joined_woven (k + 1) (k + 1) l (made_by i) (made_by i) xs (row_of made_by rest) (same_woven (k + 1) (made_by i)) w))
  one_woven false k l i xs rest w =
      woven_as k l (made_by i ++ xs) (made_by i ++ row_of made_by rest) (made_by i ++ xs) (made_by (renamed_instr r i) ++ row_of made_by rest) refl
      (ap (λ l. l ++ row_of made_by rest) (sym (made_same i)))
      (joined_woven k k l (made_by i) (made_by i) xs (row_of made_by rest) (same_woven k (made_by i)) w)

  instrs_woven : (k : ℕ) (is : List Instr) → Woven k (row_of made_by is) (after_instrs r k is) (row_of made_by (early_instrs r k is))
  instrs_woven k [] = same_woven k []
  instrs_woven k (i ∷ is) =
      let j : Instr = renamed_instr r i in
      let k2 : ℕ = after_one k j in
      one_woven (is_unsaved j) k (after_instrs r k2 is) i (row_of made_by is) (early_instrs r k2 is) (instrs_woven k2 is)

  phis_same : (ps : List Phi) → phi_names (map (renamed_phi r) ps) ≡ phi_names ps
  phis_same [] = refl
  phis_same (p ∷ ps) = λ k. p.result ∷ phis_same ps k

  block_woven : (k : ℕ) (b : Block) → Woven k (block_names b) (after_instrs r k b.instrs) (block_names (early_block r k b))
  block_woven k b =
      let to : ℕ = after_instrs r k b.instrs in
      let now : List ℕ = row_of made_by (early_instrs r k b.instrs) in
      Old k to b.label (phi_names b.phis ++ row_of made_by b.instrs) (phi_names (map (renamed_phi r) b.phis) ++ now)
      (woven_as k to (phi_names b.phis ++ row_of made_by b.instrs) (phi_names b.phis ++ now) (phi_names b.phis ++ row_of made_by b.instrs) (phi_names (map (renamed_phi r) b.phis) ++ now) refl
      (ap (λ l. l ++ now) (sym (phis_same b.phis)))
      (joined_woven k k to (phi_names b.phis) (phi_names b.phis) (row_of made_by b.instrs) now (same_woven k (phi_names b.phis)) (instrs_woven k b.instrs)))

  blocks_woven : (k : ℕ) (bs : List Block) → Woven k (row_of block_names bs) (after_blocks r k bs) (row_of block_names (early_blocks r k bs))
  blocks_woven k [] = same_woven k []
  blocks_woven k (b ∷ bs) =
      let k2 : ℕ = after_instrs r k b.instrs in
      joined_woven k k2 (after_blocks r k2 bs) (block_names b) (block_names (early_block r k b)) (row_of block_names bs) (row_of block_names (early_blocks r k2 bs)) (block_woven k b) (blocks_woven k2 bs)

  pub numbers_woven : (f : Function) → Woven (length f.names) (numbers f) (after_blocks r (length f.names) f.blocks) (numbers (early_coroutine f r))
  numbers_woven f =
      let n : ℕ = length f.names in
      joined_woven n n (after_blocks r n f.blocks) (params_of f) (params_of f) (row_of block_names f.blocks) (row_of block_names (early_blocks r n f.blocks)) (same_woven n (params_of f)) (blocks_woven n f.blocks)

-- ---- the begin of a coroutine

abbrev is_begin : Instr → Bool
is_begin i = is_call_of Intrinsic.CoroBegin i

abbrev NoBegin : List Instr → Type 0
NoBegin is = (k : ℕ) (i : Instr) → slice_get is k ≡ Some i → is_begin i ≡ true → ⊥

abbrev Single : List Instr → Type 0
Single is = (k l : ℕ) (i j : Instr) → slice_get is k ≡ Some i → slice_get is l ≡ Some j → is_begin i ≡ true → is_begin j ≡ true → k ≡ l

abbrev SingleIn : List Block → Type 0
SingleIn bs = (k l : ℕ) (b c : Block) (x y : ℕ) (i j : Instr) → slice_get bs k ≡ Some b → slice_get bs l ≡ Some c → slice_get b.instrs x ≡ Some i → slice_get c.instrs y ≡ Some j → is_begin i ≡ true → is_begin j ≡ true → (k ≡ l) × (x ≡ y)

abbrev pub Unnamed : Instr → Type 0
Unnamed i = result_of_call Intrinsic.CoroBegin i ≡ None

pub unnamed_in : (is : List Instr) → first_result_in Intrinsic.CoroBegin is ≡ None → Each Unnamed is
unnamed_in [] e = tt
unnamed_in (i ∷ is) e = (left_none (result_of_call Intrinsic.CoroBegin i) (first_result_in Intrinsic.CoroBegin is) e, unnamed_in is (right_none (result_of_call Intrinsic.CoroBegin i) (first_result_in Intrinsic.CoroBegin is) e))

unnamed_made : (i : Instr) → Unnamed i → is_begin i ≡ true → made_by i ≡ []
unnamed_made (Instr.Call result must_tail ty (Callee.Intrinsic Intrinsic.CoroBegin) args) e d = ap option_to_list e
unnamed_made _ e d = absurd (cc)

record HasBeginIn (is : List Instr) : Type 0 where
  at : ℕ
  instr : Instr
  stands : slice_get is at ≡ Some instr
  begins : is_begin instr ≡ true

module _ (n : ℕ) where
  named_made : (i : Instr) → is_begin i ≡ true → made_by (named_instr n i) ≡ n ∷ []
  named_made (Instr.Call result must_tail ty (Callee.Intrinsic Intrinsic.CoroBegin) args) d = refl
  named_made _ d = absurd (cc)

  pub instr_kept : (i : Instr) → is_begin i ≡ false → named_instr n i ≡ i
  instr_kept (Instr.Call result must_tail ty (Callee.Intrinsic Intrinsic.CoroBegin) args) e = absurd (cc)
  instr_kept _ e = refl

  none_named : (is : List Instr) → NoBegin is → row_of made_by (map (named_instr n) is) ≡ row_of made_by is
  none_named [] h = refl
  none_named (i ∷ is) h = on (is_begin i) refl (none_named is (λ k j e. h (suc k) j e))
    where
      on : (b : Bool) → is_begin i ≡ b → row_of made_by (map (named_instr n) is) ≡ row_of made_by is → made_by (named_instr n i) ++ row_of made_by (map (named_instr n) is) ≡ made_by i ++ row_of made_by is
      on true d rest = absurd (h 0 i refl d)
      on false d rest = λ k. made_by (instr_kept i d k) ++ rest k

  NamedIn : List Instr → Type 0
  NamedIn is = NoBegin is ⊎ (HasBeginIn is × Woven n (row_of made_by is) (n + 1) (row_of made_by (map (named_instr n) is)))

  named_in : (is : List Instr) → Each Unnamed is → Single is → NamedIn is
  unfolding NamedIn
  named_in [] unnamed single = inl (λ k i e d. absurd (cc))
  named_in (i ∷ is) unnamed single = on (is_begin i) refl (named_in is unnamed.1 (λ k l a b d e x y. let same : suc k ≡ suc l = single (suc k) (suc l) a b d e x y in omega (arith, same)))
    where
      no_first : is_begin i ≡ false → NoBegin is → NoBegin (i ∷ is)
      no_first d none zero j e begins = let same : i ≡ j = cc in let t : true ≡ false = sym begins ∙ ap is_begin (sym same) ∙ d in absurd (cc)
      no_first d none (suc k) j e begins = none k j e begins

      on : (b : Bool) → is_begin i ≡ b → NamedIn is → NamedIn (i ∷ is)
      on true d rest =
          let none : NoBegin is = λ k j e begins. let same : 0 ≡ suc k = single 0 (suc k) i j refl e d begins in absurd (omega (arith, same)) in
          inr (
            record { at = 0; instr = i; stands = refl; begins = d },
            woven_as n (n + 1) (row_of made_by is) (n ∷ row_of made_by is) (made_by i ++ row_of made_by is) (made_by (named_instr n i) ++ row_of made_by (map (named_instr n) is))
                (ap (λ l. l ++ row_of made_by is) (sym (unnamed_made i unnamed.0 d)))
                (sym (λ k. named_made i d k ++ none_named is none k))
                (New n (n + 1) (row_of made_by is) (row_of made_by is) (same_woven (n + 1) (row_of made_by is))),
          )
      on false d rest =
          ⊎_elim (λ none. inl (no_first d none))
          (λ one. inr (
            record { at = suc one.0.at; instr = one.0.instr; stands = one.0.stands; begins = one.0.begins },
            woven_as n (n + 1) (made_by i ++ row_of made_by is) (made_by i ++ row_of made_by (map (named_instr n) is)) (made_by i ++ row_of made_by is) (made_by (named_instr n i) ++ row_of made_by (map (named_instr n) is)) refl
                (ap (λ (j : Instr). made_by j ++ row_of made_by (map (named_instr n) is)) (sym (instr_kept i d)))
                (joined_woven n n (n + 1) (made_by i) (made_by i) (row_of made_by is) (row_of made_by (map (named_instr n) is)) (same_woven n (made_by i)) one.1),
          ))
          rest

  none_named_by : (bs : List Block) → ((k : ℕ) (b : Block) → slice_get bs k ≡ Some b → NoBegin b.instrs) → row_of block_names (map (named_block n) bs) ≡ row_of block_names bs
  none_named_by [] h = refl
  none_named_by (b ∷ bs) h = λ k. (b.label ∷ (phi_names b.phis ++ none_named b.instrs (h 0 b refl) k)) ++ none_named_by bs (λ j c e. h (suc j) c e) k

  record IsWoven (xs ys : List ℕ) : Type 0 where
    to : ℕ
    most : to ≤ n + 1
    woven : Woven n xs to ys

  named_by : (bs : List Block) → first_result_by Intrinsic.CoroBegin bs ≡ None → SingleIn bs → IsWoven (row_of block_names bs) (row_of block_names (map (named_block n) bs))
  unfolding NamedIn
  named_by [] e single = record { to = n; most = omega arith; woven = same_woven n [] }
  named_by (b ∷ bs) e single =
      let first : first_result_in Intrinsic.CoroBegin b.instrs ≡ None = left_none (first_result_in Intrinsic.CoroBegin b.instrs) (first_result_by Intrinsic.CoroBegin bs) e in
      let rest : first_result_by Intrinsic.CoroBegin bs ≡ None = right_none (first_result_in Intrinsic.CoroBegin b.instrs) (first_result_by Intrinsic.CoroBegin bs) e in
      let behind : IsWoven (row_of block_names bs) (row_of block_names (map (named_block n) bs)) = named_by bs rest (λ k l c d x y i j g h s t p q. let z = single (suc k) (suc l) c d x y i j g h s t p q in let same : suc k ≡ suc l = z.0 in (omega (arith, same), z.1)) in
      ⊎_elim
      (λ none. record {
        to = behind.to;
        most = behind.most;
        woven =
            joined_woven n n behind.to (block_names b) (block_names (named_block n b)) (row_of block_names bs) (row_of block_names (map (named_block n) bs))
            (woven_as n n (block_names b) (block_names b) (block_names b) (block_names (named_block n b)) refl (ap (λ l. b.label ∷ (phi_names b.phis ++ l)) (sym (none_named b.instrs none))) (same_woven n (block_names b)))
            behind.woven;
      })
      (λ one.
      let none : (k : ℕ) (c : Block) → slice_get bs k ≡ Some c → NoBegin c.instrs = λ k c g at i s begins. let same : 0 ≡ suc k = (single 0 (suc k) b c one.0.at at one.0.instr i refl g one.0.stands s one.0.begins begins).0 in absurd (omega (arith, same)) in
      record {
        to = n + 1;
        most = omega arith;
        woven =
            joined_woven n (n + 1) (n + 1) (block_names b) (block_names (named_block n b)) (row_of block_names bs) (row_of block_names (map (named_block n) bs))
            (Old n (n + 1) b.label (phi_names b.phis ++ row_of made_by b.instrs) (phi_names b.phis ++ row_of made_by (map (named_instr n) b.instrs))
            (joined_woven n n (n + 1) (phi_names b.phis) (phi_names b.phis) (row_of made_by b.instrs) (row_of made_by (map (named_instr n) b.instrs)) (same_woven n (phi_names b.phis)) one.1))
            (woven_as (n + 1) (n + 1) (row_of block_names bs) (row_of block_names bs) (row_of block_names bs) (row_of block_names (map (named_block n) bs)) refl (sym (none_named_by bs none)) (same_woven (n + 1) (row_of block_names bs)));
      })
      (named_in b.instrs (unnamed_in b.instrs first) (λ k l i j s t p q. (single 0 0 b b k l i j refl refl s t p q).1))

-- ---- functions

-- what a function defines is apart, and below the number of its names
pub record AreApart (f : Function) : Type 0 where
  pub apart : Apart (numbers f)
  pub below : (n : ℕ) → IsListed n (numbers f) → n < length f.names

pub longer : {A : Type 0} (xs : List A) (x : A) → length (xs ++ x ∷ []) ≡ length xs + 1
longer [] x = refl
longer (y ∷ xs) x = let e = longer xs x in omega (arith, e)

-- the numbers behind a begin's name
pub save_apart : (f : Function) (r : Renaming) → AreApart f → Apart (numbers (early_coroutine f r))
save_apart f r h = apart_woven (length f.names) (length f.names) (after_blocks r (length f.names) f.blocks) (numbers f) (numbers (early_coroutine f r)) (numbers_woven r f) (omega arith) h.below h.apart

module _ (m : Module) (func : ℕ) (f : Function) (coroutine : f.coroutine ≡ true) (h : IsUnbroken m func f) (tabled : HasTabledLocals func f) where
  pub source_apart : AreApart f
  source_apart = record {
    apart = subst Apart (names_are func f) (apart_names [] (locals_of func f) h.locals);
    below = λ n listed. let x = is_definition (locals_of func f) n (subst (IsListed n) (sym (names_are func f)) listed) in subst (λ (k : ℕ). k < length f.names) x.1.1 (tabled x.0 x.1.0);
  }

  single : SingleIn f.blocks
  single k l b c x y i j d e s t p q =
      let at : record_point k x ≡ record_point l y = one_begin func f coroutine h.calls (record_point k x) (record_point l y) i j (stands k b x i d s) (stands l c y j e t) p q in
      (ap (λ (z : Point). z.block) at, ap (λ (z : Point). z.at) at)
    where
      record_point : ℕ → ℕ → Point
      record_point k x = record { block = k; at = x }

      stands : (k : ℕ) (b : Block) (x : ℕ) (i : Instr) → slice_get f.blocks k ≡ Some b → slice_get b.instrs x ≡ Some i → instr_in (slice_get f.blocks k) x ≡ Some i
      stands k b x i d s = ap (λ (o : Option Block). instr_in o x) d ∙ s

  pub named_apart : (o : Option ℕ) → first_result Intrinsic.CoroBegin f ≡ o → AreApart (if_unnamed o f)
  named_apart (Some n) e = source_apart
  named_apart None e =
      let n : ℕ = length f.names in
      let w = named_by n f.blocks e single in
      let woven : Woven n (numbers f) w.to (numbers (begin_named f)) = joined_woven n n w.to (params_of f) (params_of f) (row_of block_names f.blocks) (row_of block_names (map (named_block n) f.blocks)) (same_woven n (params_of f)) w.woven in
      record {
        apart = apart_woven n n w.to (numbers f) (numbers (begin_named f)) woven (omega arith) source_apart.below source_apart.apart;
        below = λ k listed.
            let more : length (f.names ++ begin_name ∷ []) ≡ length f.names + 1 = longer f.names begin_name in
            ⊎_elim (λ a. let lt : k < length f.names = source_apart.below k a in omega (arith, lt, more)) (λ b. let lt : k < w.to = b.1 in let most : w.to ≤ length f.names + 1 = w.most in omega (arith, lt, most, more)) (listed_woven n w.to (numbers f) (numbers (begin_named f)) woven k listed);
      }

  -- what the pass makes of the coroutine
  abbrev pub with_name : Function
  with_name = with_begin_name f

  pub name_apart : AreApart with_name
  name_apart = named_apart (first_result Intrinsic.CoroBegin f) refl

  pub apart_once : (g : Function) → Apart (numbers g) → first_twice [] (locals_of func g) ≡ None
  apart_once g apart = none_twice [] (locals_of func g) (subst Apart (sym (names_are func g)) apart) (λ n listed. refl)

  pub early_once : first_twice [] (locals_of func (early_named with_name)) ≡ None
  early_once = apart_once (early_named with_name) (save_apart with_name (renaming_of with_name) name_apart)

  pub named_once : first_twice [] (locals_of func with_name) ≡ None
  named_once = apart_once with_name name_apart.apart
