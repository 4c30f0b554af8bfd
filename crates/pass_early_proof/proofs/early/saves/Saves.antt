-- The saves of a function, and those of the function whose saves are written out, with their windows.
use Rattle.std.proofs.Common.{◌≡◌, ℕ, suc, ◌+◌, ◌⊎◌, inl, inr, Bool, true, false, List, [], ◌∷◌, ◌++◌, length, refl, sym, ap, ◌∙◌, subst, arith, add-zero}
use Rattle.std.proofs.lemmas.List.Elements.{recursion_from_All}
use Rattle.std.specs.List.{AllByRecursion, cons_option}
use Rattle.std.specs.Prelude.{Some, None, Option, filter_map, map, option_and_then, option_map, slice_get, if◌then◌else◌, ◌||◌}
use Rattle.pass_early.specs.Early.{save_call, saved}
use Rattle.ir_model.specs.declared.instr.Instr.{Instr}
use Rattle.ir_model.specs.declared.module.Block.{Block}
use Rattle.ir_model.specs.declared.module.Function.{Function}
use Rattle.ir_model.specs.declared.operand.Intrinsic.{Intrinsic}
use Rattle.rule_laws.proofs.ir_paths.Right.{facts_of_right}
use Rattle.rule_laws.specs.ir_paths.Facts.{IsWindow}
use Rattle.rule_laws.specs.ir_paths.Windows.{call_result, instr_at, is_call_of, is_suspend_of, points_from, points_in, points_where, suspend_of, window_of, windows_of}
use Rattle.rule_laws.specs.ir_paths.declared.point.Point.{Point}
use Rattle.rule_laws.specs.ir_paths.declared.point.Window.{Window}
use Rattle.rule_laws.specs.run_laws.changed.Changed.{Each}
use Rattle.rule_laws.proofs.ir_laws.facts.Lists.{map_same, places}
use Rattle.pass_early_proof.proofs.early.saves.Points.{points_moved}
use Rattle.rule_laws.proofs.ir_laws.paths.expanded.Points.{shift_in, shifted}
use Rattle.pass_early_proof.proofs.early.saves.Tokens.{bare_is}
use Rattle.pass_early_proof.proofs.early.saves.Windows.{none_inside, same_inside, suspend_bare, suspend_lone}
use Rattle.pass_early_proof.specs.early.saves.Moved.{AreMoved, IsMoved}
use Rattle.pass_early_proof.specs.early.saves.SavesWritten.{is_bare, saved_function, with_save}
use Rattle.pass_early_proof.specs.early.saves.Spots.{back_of, front_of, own_saves}
use Rattle.rule_laws.specs.ir_laws.facts.expanded.Spots.{instrs_in}
use Rattle.rule_laws.specs.ir_laws.paths.expanded.Tokens.{HasNamedToken, HasNamedTokens}
use Rattle.rule_laws.specs.ir_laws.facts.expanded.Tokens.{IsNamedResult}
use Rattle.rule_laws.proofs.ir_laws.facts.Members.{at_each as each_at}
use Rattle.rule_laws.proofs.ir_laws.facts.Options.{IsPassing}
use Rattle.rule_laws.proofs.ir_laws.paths.expanded.Saves.{at_zero, here_in, passing_in, points_at_zero}

-- ---- a list of elements of two kinds, and those of the first kind

abbrev pub IsPicked : {A : Type 0} → (A → Type 0) → (A → Type 0) → List A → List A → Type 0
IsPicked Yes No [] ys = ys ≡ []
IsPicked {A = A} Yes No (x ∷ xs) ys = (Yes x × ((zs : List A) × (ys ≡ x ∷ zs) × IsPicked Yes No xs zs)) ⊎ (No x × IsPicked Yes No xs ys)

picked_map : {A B : Type 0} (Yes No : B → Type 0) (f : A → B) (xs ys : List A) → IsPicked (λ x. Yes (f x)) (λ x. No (f x)) xs ys → IsPicked Yes No (map f xs) (map f ys)
picked_map Yes No f [] ys h = ap (map f) h
picked_map Yes No f (x ∷ xs) ys (inl h) = inl (h.0, (map f h.1.0, ap (map f) h.1.1, picked_map Yes No f xs h.1.0 h.1.2))
picked_map Yes No f (x ∷ xs) ys (inr h) = inr (h.0, picked_map Yes No f xs ys h.1)

picked_append : {A : Type 0} (Yes No : A → Type 0) (xs ys us vs : List A) → IsPicked Yes No xs ys → IsPicked Yes No us vs → IsPicked Yes No (xs ++ us) (ys ++ vs)
picked_append {A = A} Yes No [] ys us vs h k = subst (λ (zs : List A). IsPicked Yes No us (zs ++ vs)) (sym h) k
picked_append {A = A} Yes No (x ∷ xs) ys us vs (inl h) k = inl (h.0, (h.1.0 ++ vs, ap (λ (zs : List A). zs ++ vs) h.1.1, picked_append Yes No xs h.1.0 us vs h.1.2 k))
picked_append Yes No (x ∷ xs) ys us vs (inr h) k = inr (h.0, picked_append Yes No xs ys us vs h.1 k)

-- ---- saves, and suspends whose saves are written

abbrev is_save : Instr → Bool
is_save i = is_call_of Intrinsic.CoroSave i

abbrev pub saves_or_is_bare : Bool → Instr → Bool
saves_or_is_bare c i = is_save i || is_bare c i

picked_places : (c : Bool) (is : List Instr) → IsPicked (λ k. IsPassing is_save (slice_get is k)) (λ k. IsPassing (is_bare c) (slice_get is k)) (places (saves_or_is_bare c) is) (places is_save is)
picked_places c [] = refl
picked_places c (i ∷ is) = on (is_save i) (is_bare c i) refl refl (picked_map (λ k. IsPassing is_save (slice_get (i ∷ is) k)) (λ k. IsPassing (is_bare c) (slice_get (i ∷ is) k)) suc (places (saves_or_is_bare c) is) (places is_save is) (picked_places c is))
  where
    on : (a b : Bool) → is_save i ≡ a → is_bare c i ≡ b → IsPicked (λ k. IsPassing is_save (slice_get (i ∷ is) k)) (λ k. IsPassing (is_bare c) (slice_get (i ∷ is) k)) (map suc (places (saves_or_is_bare c) is)) (map suc (places is_save is)) → IsPicked (λ k. IsPassing is_save (slice_get (i ∷ is) k)) (λ k. IsPassing (is_bare c) (slice_get (i ∷ is) k)) (if a || b then 0 ∷ map suc (places (saves_or_is_bare c) is) else map suc (places (saves_or_is_bare c) is)) (if a then 0 ∷ map suc (places is_save is) else map suc (places is_save is))
    on true b e d rest = inl (record { instr = i; is = refl; passes = e }, (map suc (places is_save is), refl, rest))
    on false true e d rest = inr (record { instr = i; is = refl; passes = d }, rest)
    on false false e d rest = rest

abbrev IsSaveIn : List Block → Point → Type 0
IsSaveIn bs p = IsPassing is_save (here_in bs p)

abbrev IsBareIn : Bool → List Block → Point → Type 0
IsBareIn c bs p = IsPassing (is_bare c) (here_in bs p)

picked_in : (c : Bool) (bs : List Block) → IsPicked (IsSaveIn bs) (IsBareIn c bs) (points_in (saves_or_is_bare c) 0 bs) (points_in is_save 0 bs)
picked_in c [] = refl
picked_in c (b ∷ bs) =
    picked_append (IsSaveIn (b ∷ bs)) (IsBareIn c (b ∷ bs)) _ _ _ _
    (subst (λ (ps : List Point). IsPicked (IsSaveIn (b ∷ bs)) (IsBareIn c (b ∷ bs)) ps (points_from is_save 0 0 b.instrs)) (sym (points_at_zero (saves_or_is_bare c) b.instrs))
    (subst (λ (ps : List Point). IsPicked (IsSaveIn (b ∷ bs)) (IsBareIn c (b ∷ bs)) (map at_zero (places (saves_or_is_bare c) b.instrs)) ps) (sym (points_at_zero is_save b.instrs))
    (picked_map (IsSaveIn (b ∷ bs)) (IsBareIn c (b ∷ bs)) at_zero (places (saves_or_is_bare c) b.instrs) (places is_save b.instrs) (picked_places c b.instrs))))
    (subst (λ (ps : List Point). IsPicked (IsSaveIn (b ∷ bs)) (IsBareIn c (b ∷ bs)) ps (points_in is_save 1 bs)) (sym (shift_in (saves_or_is_bare c) 0 bs))
    (subst (λ (ps : List Point). IsPicked (IsSaveIn (b ∷ bs)) (IsBareIn c (b ∷ bs)) (map shifted (points_in (saves_or_is_bare c) 0 bs)) ps) (sym (shift_in is_save 0 bs))
    (picked_map (IsSaveIn (b ∷ bs)) (IsBareIn c (b ∷ bs)) shifted (points_in (saves_or_is_bare c) 0 bs) (points_in is_save 0 bs) (picked_in c bs))))

-- ---- the saves of the function whose saves are written out

abbrev point_at : ℕ → ℕ → Point
point_at block at = record { block = block; at = at }

save_group : (c : Bool) (n : ℕ) (i : Instr) (block at : ℕ) → points_from is_save block at (with_save c n i) ≡ (if saves_or_is_bare c i then point_at block (at + (0 + 0)) ∷ [] else [])
save_group c n i block at = on (is_bare c i) refl
  where
    here : at ≡ at + (0 + 0)
    here = omega arith

    lone : (a : Bool) → (if a then point_at block at ∷ [] else []) ≡ (if a || false then point_at block (at + (0 + 0)) ∷ [] else [])
    lone true = λ j. point_at block (here j) ∷ []
    lone false = refl

    either_way : (a : Bool) → (a || true) ≡ true
    either_way true = refl
    either_way false = refl

    on : (b : Bool) → is_bare c i ≡ b → points_from is_save block at (if b then save_call n ∷ saved n i ∷ [] else i ∷ []) ≡ (if is_save i || b then point_at block (at + (0 + 0)) ∷ [] else [])
    on true e =
        let is = bare_is c i e in
        ap (λ (x : Instr). point_at block at ∷ (if is_save (saved n x) then point_at block (suc at) ∷ [] else [])) is.is
        ∙ (λ j. point_at block (here j) ∷ [])
        ∙ ap (λ (t : Bool). if t then point_at block (at + (0 + 0)) ∷ [] else []) (sym (either_way (is_save i)))
    on false e = lone (is_save i)

pub each_trivial : (bs : List Block) → Each (λ (b : Block). Each (λ (i : Instr). Unit {0}) b.instrs) bs
each_trivial [] = tt
each_trivial (b ∷ bs) = (on b.instrs, each_trivial bs)
  where
    on : (is : List Instr) → Each (λ (i : Instr). Unit {0}) is
    on [] = tt
    on (i ∷ is) = (tt, on is)

pub saves_saved : (f : Function) → points_where is_save (saved_function f) ≡ map (front_of f) (points_where (saves_or_is_bare f.coroutine) f)
saves_saved f =
    points_moved f.coroutine (saves_or_is_bare f.coroutine) is_save (λ o. 0) 0 (λ i. Unit {0})
    (λ n i le p block at. save_group f.coroutine n i block at) f.blocks (each_trivial f.blocks) (length f.names) (omega arith)
    ∙ map_same _ (front_of f) (λ p. ap (λ (k : ℕ). record { block = p.block; at = k }) (add-zero (front_of f p).at)) (points_where (saves_or_is_bare f.coroutine) f)

-- what holds of all instructions holds of one that stands at a point
pub each_here : (P : Instr → Type 0) (bs : List Block) → Each (λ (b : Block). Each P b.instrs) bs → (p : Point) (i : Instr) → here_in bs p ≡ Some i → P i
each_here P bs h p i e = on (slice_get bs p.block) refl
  where
    on : (o : Option Block) → slice_get bs p.block ≡ o → P i
    on None s = let none = ap (λ (x : Option Block). slice_get (instrs_in x) p.at) s in absurd (cc)
    on (Some b) s =
        each_at P b.instrs p.at i (each_at (λ (b : Block). Each P b.instrs) bs p.block b h s)
        (sym (ap (λ (x : Option Block). slice_get (instrs_in x) p.at) s) ∙ e)

-- a save isn't one of the suspends whose saves are written
save_not_bare : (c : Bool) (i : Instr) → is_save i ≡ true → is_bare c i ≡ false
save_not_bare c i e = on (is_bare c i) refl
  where
    on : (b : Bool) → is_bare c i ≡ b → is_bare c i ≡ false
    on true d = let is = bare_is c i d in let no = sym (ap is_save is.is) ∙ e in absurd (cc)
    on false d = d

-- nor is a suspend that takes a token
token_not_bare : (c : Bool) (r : Option ℕ) (i : Instr) → is_suspend_of r i ≡ true → is_bare c i ≡ false
token_not_bare c None i e = absurd (cc)
token_not_bare c (Some v) i e = on (is_bare c i) refl
  where
    on : (b : Bool) → is_bare c i ≡ b → is_bare c i ≡ false
    on true d = let is = bare_is c i d in let no = sym (ap (is_suspend_of (Some v)) is.is) ∙ e in absurd (cc)
    on false d = d

module _ (f : Function) (named : HasNamedTokens f) where
  abbrev g : Function
  g = saved_function f

  abbrev pair_in : Function → Point → Option (Point × Point)
  pair_in h save = option_map (λ suspend. (save, suspend)) (suspend_of h save)

  abbrev windows_by : Function → List Point → List Window
  windows_by h ps = map (λ (x : Point × Point). window_of h x.0 x.1) (filter_map (pair_in h) ps)

  -- one save more, by the suspend that it has
  abbrev with_window : Function → Point → Option Point → List Point → List Window
  with_window h save o ps = map (λ (x : Point × Point). window_of h x.0 x.1) (cons_option (option_map (λ suspend. (save, suspend)) o) (filter_map (pair_in h) ps))

  abbrev AreRight : Function → List Window → Type 0
  AreRight h ws = AllByRecursion (IsWindow h) ws

  pub lone_front : (p : Point) (i : Instr) → here_in f.blocks p ≡ Some i → is_bare f.coroutine i ≡ false → front_of f p ≡ back_of f p
  lone_front p i e b =
      let own : own_saves f.coroutine (here_in f.blocks p) ≡ 0 = ap (own_saves f.coroutine) e ∙ ap (λ (t : Bool). if t then 1 else 0) b in
      ap (λ (k : ℕ). record { block = p.block; at = k }) (sym (add-zero (front_of f p).at) ∙ ap (λ (k : ℕ). (front_of f p).at + k) (sym own))

  -- the suspend of a save stands alone
  lone_suspend : (p s : Point) → suspend_of f p ≡ Some s → front_of f s ≡ back_of f s
  lone_suspend p s e =
      let r : Option ℕ = option_and_then call_result (instr_at f p) in
      let at : IsPassing (is_suspend_of r) (here_in f.blocks s) = each_at (λ (q : Point). IsPassing (is_suspend_of r) (here_in f.blocks q)) (points_where (is_suspend_of r) f) 0 s (passing_in (is_suspend_of r) f.blocks) e in
      lone_front s at.instr at.is (token_not_bare f.coroutine r at.instr at.passes)

  kept_window : (p : Point) (i : Instr) → here_in f.blocks p ≡ Some i → is_save i ≡ true → (s : Point) → suspend_of f p ≡ Some s → IsWindow f (window_of f p s) → IsWindow g (window_of g (front_of f p) (back_of f s)) → IsMoved f (window_of f p s) (window_of g (front_of f p) (back_of f s))
  kept_window p i e b s t hw hv =
      let lone = lone_suspend p s t in
      record {
        save = refl;
        suspend = sym lone;
        inside = same_inside f named p s (lone_front p i e (save_not_bare f.coroutine i b)) lone (window_of f p s) (window_of g (front_of f p) (back_of f s)) refl refl refl refl hw hv;
      }

  windows_moved : (ps ss : List Point) → IsPicked (IsSaveIn f.blocks) (IsBareIn f.coroutine f.blocks) ps ss → AreRight f (windows_by f ss) → AreRight g (windows_by g (map (front_of f) ps)) → AreMoved f (windows_by f ss) (windows_by g (map (front_of f) ps))
  windows_moved [] ss h hw hv = ap (windows_by f) h
  windows_moved (p ∷ ps) ss (inr h) hw hv = on (suspend_bare f named p h.0.instr h.0.is h.0.passes) hv (windows_moved ps ss h.1 hw)
    where
      on : suspend_of g (front_of f p) ≡ Some (back_of f p) → AreRight g (with_window g (front_of f p) (suspend_of g (front_of f p)) (map (front_of f) ps)) → (AreRight g (windows_by g (map (front_of f) ps)) → AreMoved f (windows_by f ss) (windows_by g (map (front_of f) ps))) → AreMoved f (windows_by f ss) (with_window g (front_of f p) (suspend_of g (front_of f p)) (map (front_of f) ps))
      on e right again =
          let there = subst (λ (o : Option Point). AreRight g (with_window g (front_of f p) o (map (front_of f) ps))) e right in
          subst (λ (o : Option Point). AreMoved f (windows_by f ss) (with_window g (front_of f p) o (map (front_of f) ps))) (sym e)
          (inl ((λ q. none_inside f named p h.0.instr h.0.is h.0.passes (window_of g (front_of f p) (back_of f p)) refl refl there.0 (front_of f q)), again there.1))
  windows_moved (p ∷ ps) ss (inl h) hw hv =
      kept (suspend_of f p) refl
      (subst (λ (zs : List Point). AreRight f (windows_by f zs)) h.1.1 hw) hv
      (windows_moved ps h.1.0 h.1.2)
    where
      save_result : IsNamedResult (length f.names) (call_result h.0.instr)
      save_result = (each_here (HasNamedToken (length f.names)) f.blocks named p h.0.instr h.0.is).result

      moved_suspend : suspend_of g (front_of f p) ≡ option_map (back_of f) (suspend_of f p)
      moved_suspend = suspend_lone f named p h.0.instr h.0.is (save_not_bare f.coroutine h.0.instr h.0.passes) save_result

      with_suspend : (o : Option Point) → suspend_of f p ≡ o → AreRight f (with_window f p o h.1.0) → AreRight g (with_window g (front_of f p) (option_map (back_of f) o) (map (front_of f) ps)) → (AreRight f (windows_by f h.1.0) → AreRight g (windows_by g (map (front_of f) ps)) → AreMoved f (windows_by f h.1.0) (windows_by g (map (front_of f) ps))) → AreMoved f (with_window f p o h.1.0) (with_window g (front_of f p) (option_map (back_of f) o) (map (front_of f) ps))
      with_suspend None e right there again = again right there
      with_suspend (Some s) e right there again =
          inr (window_of f p s, windows_by f h.1.0, refl, kept_window p h.0.instr h.0.is h.0.passes s e right.0 there.0, again right.1 there.1)

      kept : (o : Option Point) → suspend_of f p ≡ o → AreRight f (windows_by f (p ∷ h.1.0)) → AreRight g (with_window g (front_of f p) (suspend_of g (front_of f p)) (map (front_of f) ps)) → (AreRight f (windows_by f h.1.0) → AreRight g (windows_by g (map (front_of f) ps)) → AreMoved f (windows_by f h.1.0) (windows_by g (map (front_of f) ps))) → AreMoved f (windows_by f ss) (with_window g (front_of f p) (suspend_of g (front_of f p)) (map (front_of f) ps))
      kept o e right there again =
          subst (λ (zs : List Point). AreMoved f (windows_by f zs) (with_window g (front_of f p) (suspend_of g (front_of f p)) (map (front_of f) ps))) (sym h.1.1)
          (subst (λ (u : Option Point). AreMoved f (windows_by f (p ∷ h.1.0)) (with_window g (front_of f p) u (map (front_of f) ps))) (sym moved_suspend)
          (with_suspend (suspend_of f p) refl right (subst (λ (u : Option Point). AreRight g (with_window g (front_of f p) u (map (front_of f) ps))) moved_suspend there) again))

  -- the windows of the function are moved
  pub are_moved : AreMoved f (windows_of f) (windows_of g)
  are_moved =
      subst (λ (ps : List Point). AreMoved f (windows_of f) (windows_by g ps)) (sym (saves_saved f))
      (windows_moved (points_where (saves_or_is_bare f.coroutine) f) (points_where is_save f) (picked_in f.coroutine f.blocks)
      (recursion_from_All (IsWindow f) (windows_of f) (facts_of_right f).windows)
      (subst (λ (ps : List Point). AreRight g (windows_by g ps)) (saves_saved f) (recursion_from_All (IsWindow g) (windows_of g) (facts_of_right g).windows)))
