-- The ramp slots of a function whose saves are written out are those of the function.
use Rattle.std.proofs.Common.{◌≡◌, ℕ, zero, suc, ◌<◌, ◌≤◌, Bool, true, false, List, [], ◌∷◌, ◌++◌, length, refl, sym, ap, ◌∙◌, subst, arith}
use Rattle.std.proofs.lemmas.List.{length-map}
use Rattle.std.proofs.lemmas.Option.{slice_get-map}
use Rattle.std.specs.List.{list_any}
use Rattle.std.specs.Prelude.{Some, None, Option, flat_map, map, not, option_and_then, option_map, option_to_list, slice_get, if◌then◌else◌, ◌&&◌, ◌||◌}
use Rattle.pass_early.specs.Early.{save_call, saved}
use Rattle.ir_model.specs.Names.{is_local}
use Rattle.ir_model.specs.declared.instr.Instr.{Instr}
use Rattle.ir_model.specs.declared.module.Block.{Block}
use Rattle.ir_model.specs.declared.module.Function.{Function}
use Rattle.ir_model.specs.declared.operand.Intrinsic.{Intrinsic}
use Rattle.ir_model.specs.declared.operand.Operand.{Operand}
use Rattle.rule_laws.proofs.ir_paths.Right.{facts_of_right}
use Rattle.rule_laws.specs.ir_paths.Facts.{facts_of}
use Rattle.rule_laws.specs.ir_paths.Paths.{has_point}
use Rattle.rule_laws.specs.ir_paths.Slots.{IsBehindSuspend, IsRampSlot, addresses_of, addresses_within, allocas_in, allocas_of, exposed_in_block, exposes, geps_from, has_name, is_escaped, is_gep, local_of, occurs, occurs_in_phi, occurs_in_term, promise_of, touches, touching_points}
use Rattle.rule_laws.specs.ir_paths.Windows.{call_operand, instr_at, is_call_of, points_where}
use Rattle.rule_laws.specs.ir_paths.declared.point.Point.{Point}
use Rattle.rule_laws.proofs.ir_laws.facts.Truth.{same_truth}
use Rattle.pass_early_proof.proofs.early.saves.Behind.{any_saved, behind_forth, behind_home}
use Rattle.rule_laws.specs.run_laws.changed.Changed.{Each}
use Rattle.pass_early_proof.proofs.early.saves.Points.{IsOfOwn, own_group, points_moved}
use Rattle.rule_laws.proofs.ir_laws.facts.Options.{IsPassing}
use Rattle.rule_laws.proofs.ir_laws.facts.Members.{each_joined as each_append, at_each as each_at, any_same}
use Rattle.pass_early_proof.proofs.early.saves.Saves.{each_trivial, lone_front}
use Rattle.rule_laws.proofs.ir_laws.paths.expanded.Saves.{passing_in}
use Rattle.pass_early_proof.proofs.early.saves.Tokens.{bare_is, behind_more, smaller_name}
use Rattle.rule_laws.proofs.ir_laws.paths.expanded.Ways.{has_map, map_has}
use Rattle.pass_early_proof.proofs.early.saves.Windows.{front_lone}
use Rattle.rule_laws.proofs.ir_laws.paths.expanded.Windows.{instr_at_is}
use Rattle.pass_early_proof.specs.early.saves.SavesWritten.{behind_save, behind_saves, is_bare, saved_block, saved_blocks, saved_function, with_save, with_saves}
use Rattle.pass_early_proof.specs.early.saves.Spots.{back_of, own_saves}
use Rattle.rule_laws.specs.ir_laws.facts.expanded.Spots.{instrs_in}
use Rattle.rule_laws.specs.ir_laws.paths.expanded.Tokens.{HasNamedToken, HasNamedTokens}
use Rattle.rule_laws.proofs.ir_laws.paths.expanded.Slots.{each_has}

-- ---- allocas and getelementptrs

alloca_cons : (i : Instr) (xs ys : List Instr) → allocas_in xs ≡ allocas_in ys → allocas_in (i ∷ xs) ≡ allocas_in (i ∷ ys)
alloca_cons (Instr.Alloca name ty align) xs ys e = ap (λ (vs : List ℕ). name ∷ vs) e
alloca_cons _ xs ys e = e

gep_cons : (is_base : ℕ → Bool) (i : Instr) (xs ys : List Instr) → geps_from is_base xs ≡ geps_from is_base ys → geps_from is_base (i ∷ xs) ≡ geps_from is_base (i ∷ ys)
gep_cons is_base (Instr.Gep name inbounds ty (Operand.Local v) indices) xs ys e = ap (λ (vs : List ℕ). (if is_base v then name ∷ [] else []) ++ vs) e
gep_cons is_base _ xs ys e = e

module _ (c : Bool) where
  allocas_saved : (n : ℕ) (is : List Instr) → allocas_in (with_saves c n is) ≡ allocas_in is
  allocas_saved n [] = refl
  allocas_saved n (i ∷ is) = on (is_bare c i) refl (allocas_saved (behind_save c n i) is)
    where
      on : (b : Bool) → is_bare c i ≡ b → allocas_in (with_saves c (behind_save c n i) is) ≡ allocas_in is → allocas_in ((if b then save_call n ∷ saved n i ∷ [] else i ∷ []) ++ with_saves c (behind_save c n i) is) ≡ allocas_in (i ∷ is)
      on true e again =
          let is_call = bare_is c i e in
          ap (λ (x : Instr). allocas_in (save_call n ∷ saved n x ∷ with_saves c (behind_save c n i) is)) is_call.is
          ∙ again
          ∙ sym (ap (λ (x : Instr). allocas_in (x ∷ is)) is_call.is)
      on false e again = alloca_cons i (with_saves c (behind_save c n i) is) is again

  geps_saved : (is_base : ℕ → Bool) (n : ℕ) (is : List Instr) → geps_from is_base (with_saves c n is) ≡ geps_from is_base is
  geps_saved is_base n [] = refl
  geps_saved is_base n (i ∷ is) = on (is_bare c i) refl (geps_saved is_base (behind_save c n i) is)
    where
      on : (b : Bool) → is_bare c i ≡ b → geps_from is_base (with_saves c (behind_save c n i) is) ≡ geps_from is_base is → geps_from is_base ((if b then save_call n ∷ saved n i ∷ [] else i ∷ []) ++ with_saves c (behind_save c n i) is) ≡ geps_from is_base (i ∷ is)
      on true e again =
          let is_call = bare_is c i e in
          ap (λ (x : Instr). geps_from is_base (save_call n ∷ saved n x ∷ with_saves c (behind_save c n i) is)) is_call.is
          ∙ again
          ∙ sym (ap (λ (x : Instr). geps_from is_base (x ∷ is)) is_call.is)
      on false e again = gep_cons is_base i (with_saves c (behind_save c n i) is) is again

  all_allocas : (n : ℕ) (bs : List Block) → flat_map (λ (b : Block). allocas_in b.instrs) (saved_blocks c n bs) ≡ flat_map (λ (b : Block). allocas_in b.instrs) bs
  all_allocas n [] = refl
  all_allocas n (b ∷ bs) =
      let first = allocas_saved n b.instrs in
      let rest = all_allocas (behind_saves c n b.instrs) bs in
      λ i. first i ++ rest i

  all_geps : (is_base : ℕ → Bool) (n : ℕ) (bs : List Block) → flat_map (λ (b : Block). geps_from is_base b.instrs) (saved_blocks c n bs) ≡ flat_map (λ (b : Block). geps_from is_base b.instrs) bs
  all_geps is_base n [] = refl
  all_geps is_base n (b ∷ bs) =
      let first = geps_saved is_base n b.instrs in
      let rest = all_geps is_base (behind_saves c n b.instrs) bs in
      λ i. first i ++ rest i

-- ---- addresses are names

each_name_geps : (n : ℕ) (is_base : ℕ → Bool) (is : List Instr) → Each (HasNamedToken n) is → Each (λ v. v < n) (geps_from is_base is)
each_name_geps n is_base [] h = tt
each_name_geps n is_base (Instr.Gep name inbounds ty (Operand.Local v) indices ∷ is) h =
    each_append (λ u. u < n) (if is_base v then name ∷ [] else []) (geps_from is_base is) (on (is_base v)) (each_name_geps n is_base is h.1)
  where
    on : (b : Bool) → Each (λ u. u < n) (if b then name ∷ [] else [])
    on true = (h.0.address, tt)
    on false = tt
each_name_geps n is_base (_ ∷ is) h = each_name_geps n is_base is h.1

each_name_allocas : (n : ℕ) (is : List Instr) → Each (HasNamedToken n) is → Each (λ v. v < n) (allocas_in is)
each_name_allocas n [] h = tt
each_name_allocas n (Instr.Alloca name ty align ∷ is) h = (h.0.address, each_name_allocas n is h.1)
each_name_allocas n (_ ∷ is) h = each_name_allocas n is h.1

each_flat : (n : ℕ) (F : Block → List ℕ) → ((b : Block) → Each (HasNamedToken n) b.instrs → Each (λ v. v < n) (F b)) → (bs : List Block) → Each (λ (b : Block). Each (HasNamedToken n) b.instrs) bs → Each (λ v. v < n) (flat_map F bs)
each_flat n F h [] k = tt
each_flat n F h (b ∷ bs) k = each_append (λ v. v < n) (F b) (flat_map F bs) (h b k.0) (each_flat n F h bs k.1)

-- ---- an operand of one of the function's names

occurs_nowhere : (v n : ℕ) → occurs v (save_call n) ≡ false
occurs_nowhere v n = refl

saved_occurs : (v n : ℕ) (i : Instr) (c : Bool) → is_bare c i ≡ true → v < n → occurs v (saved n i) ≡ occurs v i
saved_occurs v n i c e lt =
    let is = bare_is c i e in
    ap (λ (x : Instr). occurs v (saved n x)) is.is
    ∙ ap (λ (t : Bool). t || list_any (λ a. is_local v a.value) is.args) (smaller_name v n lt)
    ∙ sym (ap (occurs v) is.is)

saved_exposes : (v n : ℕ) (i : Instr) (c : Bool) → is_bare c i ≡ true → v < n → exposes v (saved n i) ≡ exposes v i
saved_exposes v n i c e lt =
    let is = bare_is c i e in
    ap (λ (x : Instr). exposes v (saved n x)) is.is
    ∙ ap (λ (t : Bool). t || list_any (λ a. is_local v a.value) is.args) (smaller_name v n lt)
    ∙ sym (ap (exposes v) is.is)

exposed_group : (v least n : ℕ) (c : Bool) (i : Instr) → v < least → least ≤ n → list_any (exposes v) (with_save c n i) ≡ exposes v i
exposed_group v least n c i lt le = on (is_bare c i) refl
  where
    alone : (a : Bool) → (a || false) ≡ a
    alone true = refl
    alone false = refl

    on : (b : Bool) → is_bare c i ≡ b → list_any (exposes v) (if b then save_call n ∷ saved n i ∷ [] else i ∷ []) ≡ exposes v i
    on true e = alone (exposes v (saved n i)) ∙ saved_exposes v n i c e (omega arith)
    on false e = alone (exposes v i)

exposed_saved : (v least n : ℕ) (c : Bool) (b : Block) → v < least → least ≤ n → exposed_in_block v (saved_block c n b) ≡ exposed_in_block v b
exposed_saved v least n c b lt le =
    ap (λ (t : Bool). list_any (occurs_in_phi v) b.phis || t || occurs_in_term v b.term)
    (any_saved c (exposes v) (exposes v) least (λ i. Unit {0}) (λ k i more p. exposed_group v least k c i lt more) b.instrs (unit b.instrs) n le)
  where
    unit : (is : List Instr) → Each (λ (i : Instr). Unit {0}) is
    unit [] = tt
    unit (i ∷ is) = (tt, unit is)

exposed_anywhere : (v least n : ℕ) (c : Bool) (bs : List Block) → v < least → least ≤ n → list_any (exposed_in_block v) (saved_blocks c n bs) ≡ list_any (exposed_in_block v) bs
exposed_anywhere v least n c [] lt le = refl
exposed_anywhere v least n c (b ∷ bs) lt le =
    let first = exposed_saved v least n c b lt le in
    let rest = exposed_anywhere v least (behind_saves c n b.instrs) c bs lt (let more = behind_more c least n b.instrs in omega (arith, more)) in
    λ i. first i || rest i

module _ (f : Function) (named : HasNamedTokens f) where
  abbrev g : Function
  g = saved_function f

  abbrev names : ℕ
  names = length f.names

  pub same_allocas : allocas_of g ≡ allocas_of f
  same_allocas = all_allocas f.coroutine names f.blocks

  -- ---- tests of instructions that no written save passes

  gep_count : length (points_where is_gep g) ≡ length (points_where is_gep f)
  gep_count =
      ap length (points_moved f.coroutine is_gep is_gep (own_saves f.coroutine) 0 (λ i. Unit {0})
      (λ n i le p block at. own_group f.coroutine is_gep is_gep n i (record {
        save = λ e. refl;
        saved_one = λ e. let is = bare_is f.coroutine i e in ap (λ (x : Instr). is_gep (saved n x)) is.is ∙ sym (ap is_gep is.is);
        lone = λ e. refl;
      }) block at)
      f.blocks (each_trivial f.blocks) names (omega arith))
      ∙ length-map (points_where is_gep f) (back_of f)

  within_same : (n a : ℕ) → addresses_within n g a ≡ addresses_within n f a
  within_same zero a = refl
  within_same (suc n) a =
      ap (λ (vs : List ℕ). a ∷ flat_map (λ (b : Block). geps_from (has_name vs) b.instrs) (saved_function f).blocks) (within_same n a)
      ∙ ap (λ (vs : List ℕ). a ∷ vs) (all_geps f.coroutine (has_name (addresses_within n f a)) names f.blocks)

  pub same_addresses : (a : ℕ) → addresses_of g a ≡ addresses_of f a
  same_addresses a = ap (λ (n : ℕ). addresses_within n (saved_function f) a) gep_count ∙ within_same (length (points_where is_gep f)) a

  named_allocas : Each (λ v. v < names) (allocas_of f)
  named_allocas = each_flat names (λ (b : Block). allocas_in b.instrs) (λ b h. each_name_allocas names b.instrs h) f.blocks named

  named_addresses : (n a : ℕ) → a < names → Each (λ v. v < names) (addresses_within n f a)
  named_addresses zero a lt = (lt, tt)
  named_addresses (suc n) a lt = (lt, each_flat names (λ (b : Block). geps_from (has_name (addresses_within n f a)) b.instrs) (λ b h. each_name_geps names (has_name (addresses_within n f a)) b.instrs h) f.blocks named)

  named_of : (a : ℕ) → a < names → Each (λ v. v < names) (addresses_of f a)
  named_of a lt = named_addresses (length (points_where is_gep f)) a lt

  same_escaped : (a : ℕ) → a < names → is_escaped g a ≡ is_escaped f a
  same_escaped a lt =
      ap (λ (vs : List ℕ). list_any (λ v. list_any (exposed_in_block v) (saved_function f).blocks) vs) (same_addresses a)
      ∙ any_same (λ v. v < names) (λ v. list_any (exposed_in_block v) (saved_function f).blocks) (λ v. list_any (exposed_in_block v) f.blocks)
      (λ v h. exposed_anywhere v names names f.coroutine f.blocks h (omega arith)) (addresses_of f a) (named_of a lt)

  -- ---- uses and markers

  no_occurrence : (n : ℕ) (vs : List ℕ) → list_any (λ v. occurs v (save_call n)) vs ≡ false
  no_occurrence n [] = refl
  no_occurrence n (v ∷ vs) = no_occurrence n vs

  touch_group : (vs : List ℕ) → Each (λ v. v < names) vs → (n : ℕ) (i : Instr) → names ≤ n → IsOfOwn f.coroutine (touches vs) (touches vs) n i
  touch_group vs h n i le = record {
    save = λ e. ap (λ (t : Bool). t && not (is_call_of Intrinsic.CoroId (save_call n))) (no_occurrence n vs);
    saved_one = λ e.
        let is = bare_is f.coroutine i e in
        let id = ap (λ (x : Instr). is_call_of Intrinsic.CoroId (saved n x)) is.is ∙ sym (ap (is_call_of Intrinsic.CoroId) is.is) in
        ap (λ (t : Bool). t && not (is_call_of Intrinsic.CoroId (saved n i)))
        (any_same (λ v. v < names) (λ v. occurs v (saved n i)) (λ v. occurs v i) (λ v lt. saved_occurs v n i f.coroutine e (omega arith)) vs h)
        ∙ ap (λ (t : Bool). list_any (λ v. occurs v i) vs && not t) id;
    lone = λ e. refl;
  }

  same_touching : (a : ℕ) → a < names → touching_points g a ≡ map (back_of f) (touching_points f a)
  same_touching a lt =
      ap (λ (vs : List ℕ). points_where (touches vs) (saved_function f)) (same_addresses a)
      ∙ points_moved f.coroutine (touches (addresses_of f a)) (touches (addresses_of f a)) (own_saves f.coroutine) names (λ i. Unit {0})
      (λ n i le p block at. own_group f.coroutine (touches (addresses_of f a)) (touches (addresses_of f a)) n i (touch_group (addresses_of f a) (named_of a lt) n i le) block at)
      f.blocks (each_trivial f.blocks) names (omega arith)

  -- ---- the promise

  abbrev is_id : Instr → Bool
  is_id i = is_call_of Intrinsic.CoroId i

  ids_moved : points_where is_id g ≡ map (back_of f) (points_where is_id f)
  ids_moved =
      points_moved f.coroutine is_id is_id (own_saves f.coroutine) 0 (λ i. Unit {0})
      (λ n i le p block at. own_group f.coroutine is_id is_id n i (record {
        save = λ e. refl;
        saved_one = λ e. let is = bare_is f.coroutine i e in ap (λ (x : Instr). is_id (saved n x)) is.is ∙ sym (ap is_id is.is);
        lone = λ e. refl;
      }) block at)
      f.blocks (each_trivial f.blocks) names (omega arith)

  abbrev promise_at : Option Instr → Option ℕ
  promise_at o = option_and_then (λ (i : Instr). local_of (call_operand i 1)) o

  id_not_bare : (i : Instr) → is_id i ≡ true → is_bare f.coroutine i ≡ false
  id_not_bare i e = on (is_bare f.coroutine i) refl
    where
      on : (b : Bool) → is_bare f.coroutine i ≡ b → is_bare f.coroutine i ≡ false
      on true d = let is = bare_is f.coroutine i d in let no = sym (ap is_id is.is) ∙ e in absurd (cc)
      on false d = d

  id_moved : (p : Point) → IsPassing is_id (slice_get (instrs_in (slice_get f.blocks p.block)) p.at) → instr_at g (back_of f p) ≡ instr_at f p
  id_moved p h =
      let lone = id_not_bare h.instr h.passes in
      ap (instr_at (saved_function f)) (sym (lone_front f named p h.instr h.is lone))
      ∙ front_lone f named p h.instr h.is lone
      ∙ sym (instr_at_is (slice_get f.blocks p.block) p.at ∙ h.is)

  pub same_promise : promise_of g ≡ promise_of f
  same_promise =
      ap (λ (ps : List Point). promise_at (option_and_then (instr_at (saved_function f)) (slice_get ps 0))) ids_moved
      ∙ ap (λ (o : Option Point). promise_at (option_and_then (instr_at (saved_function f)) o)) (slice_get-map (back_of f) (points_where is_id f) 0)
      ∙ on (slice_get (points_where is_id f) 0) refl
    where
      on : (o : Option Point) → slice_get (points_where is_id f) 0 ≡ o → promise_at (option_and_then (instr_at (saved_function f)) (option_map (back_of f) o)) ≡ promise_at (option_and_then (instr_at f) o)
      on None e = refl
      on (Some p) e = ap promise_at (id_moved p (each_at (λ (q : Point). IsPassing is_id (slice_get (instrs_in (slice_get f.blocks q.block)) q.at)) (points_where is_id f) 0 p (passing_in is_id f.blocks) e))

  -- ---- ramp slots

  ramp_forth : (a : ℕ) → a < names → IsRampSlot f a → IsRampSlot g a
  ramp_forth a lt r = record {
    is_not_promise = ap (λ (o : Option ℕ). has_name (option_to_list o) a) same_promise ∙ r.is_not_promise;
    is_not_escaped = same_escaped a lt ∙ r.is_not_escaped;
    in_ramp = λ p h b.
        let from = map_has (back_of f) (touching_points f a) p (ap (λ (ps : List Point). has_point ps p) (sym (same_touching a lt)) ∙ h) in
        r.in_ramp from.point from.there (behind_home f from.point (subst (IsBehindSuspend (saved_function f)) from.is b));
  }

  ramp_home : (a : ℕ) → a < names → IsRampSlot g a → IsRampSlot f a
  ramp_home a lt r = record {
    is_not_promise = ap (λ (o : Option ℕ). has_name (option_to_list o) a) (sym same_promise) ∙ r.is_not_promise;
    is_not_escaped = sym (same_escaped a lt) ∙ r.is_not_escaped;
    in_ramp = λ p h b. r.in_ramp (back_of f p) (ap (λ (ps : List Point). has_point ps (back_of f p)) (same_touching a lt) ∙ has_map (back_of f) (touching_points f a) p h) (behind_forth f p b);
  }

  named_alloca : (a : ℕ) → has_name (allocas_of f) a ≡ true → a < names
  named_alloca a h = each_has (λ v. v < names) (allocas_of f) a named_allocas h

  pub same_ramp_slots : (a : ℕ) → has_name (facts_of g).ramp_slots a ≡ has_name (facts_of f).ramp_slots a
  same_ramp_slots a = same_truth (has_name (facts_of g).ramp_slots a) (has_name (facts_of f).ramp_slots a)
      (λ h.
      let own = ((facts_of_right g).ramp_slots a).0 h in
      let there = ap (λ (vs : List ℕ). has_name vs a) (sym same_allocas) ∙ own.0 in
      ((facts_of_right f).ramp_slots a).1 (there, ramp_home a (named_alloca a there) own.1))
      (λ h.
      let own = ((facts_of_right f).ramp_slots a).0 h in
      ((facts_of_right g).ramp_slots a).1 (ap (λ (vs : List ℕ). has_name vs a) same_allocas ∙ own.0, ramp_forth a (named_alloca a own.0) own.1))
