-- What stands at the ends of blocks for phis' operands.
use Rattle.std.proofs.Common.{◌≡◌, inl, ⊎_elim, ℕ, zero, suc, ◌<◌, ◌≤◌, List, [], ◌∷◌, ◌++◌, length, refl, sym, ap, ◌∙◌, subst, arith}
use Rattle.std.specs.Prelude.{None, Option, Some, map, replicate, slice_set, unwrap_or}
use Rattle.pass_edges_proof.specs.rule_uses.Uses.{values_at}
use Rattle.pass_edges_proof.proofs.ir_laws.facts.Lists.{set_here, set_length, set_other}
use Rattle.pass_edges_proof.proofs.ir_laws.paths.source_rules.Locals.{listed_either, listed_left, listed_right}
use Rattle.pass_fetch_proof.proofs.fetch.rules.Puts.{fetch_rises}
use Rattle.pass_fetch_proof.specs.fetch.rules.Fetches.{base_of}
use Rattle.pass_edges_proof.specs.flow_solver.Paths.{IsListed}
use Rattle.ir_model.specs.Names.{position_of}
use Rattle.ir_model.specs.declared.instr.Incoming.{Incoming}
use Rattle.ir_model.specs.declared.instr.Instr.{Instr}
use Rattle.ir_model.specs.declared.instr.Phi.{Phi}
use Rattle.ir_model.specs.declared.module.Block.{Block}
use Rattle.ir_model.specs.declared.module.Function.{Function}
use Rattle.ir_model.specs.declared.operand.Operand.{Operand}
use Rattle.pass_edges_proof.specs.run_laws.changed.Changed.{Each}
use Rattle.pass_edges_proof.specs.pass_fetch.Blocks.{end_at, ends_of_blocks, ends_of_incoming, ends_of_phis, next_after_phi, next_after_phis, next_after_phis_by, with_end}
use Rattle.pass_edges_proof.specs.pass_fetch.Fetching.{fetch_into, fetch_of, next_after, next_after_all, next_by}
use Rattle.pass_edges_proof.specs.pass_fetch.declared.fetch.Fetch.{Fetch}
use Rattle.pass_edges_proof.specs.rule_laws.rules.woven_rules.Weaving.{IsThere}
use Rattle.pass_edges_proof.proofs.ir_laws.facts.Truth.{is_number}

-- names only rise
pub phis_rise : (t : List (Option Fetch)) (n : ℕ) (ps : List Phi) → n ≤ next_after_phis t n ps
phis_rise t n [] = omega arith
phis_rise t n (p ∷ ps) =
    let here : n ≤ next_after_phi t n p = fetch_rises t n (map (λ (i : Incoming). i.value) p.incoming) in
    let more : next_after_phi t n p ≤ next_after_phis t (next_after_phi t n p) ps = phis_rise t (next_after_phi t n p) ps in
    omega (arith, here, more)

pub blocks_rise : (t : List (Option Fetch)) (n : ℕ) (bs : List Block) → n ≤ next_after_phis_by t n bs
blocks_rise t n [] = omega arith
blocks_rise t n (b ∷ bs) =
    let here : n ≤ next_after_phis t n b.phis = phis_rise t n b.phis in
    let more : next_after_phis t n b.phis ≤ next_after_phis_by t (next_after_phis t n b.phis) bs = blocks_rise t (next_after_phis t n b.phis) bs in
    omega (arith, here, more)

module _ (f : Function) (t : List (Option Fetch)) (lowest limit : ℕ) where
  -- ---- what is asked of a phi's operand, and what stands for it

  -- where the operand is fetched, its address is there at the end of its block
  pub record IsGood (i : Incoming) : Type 0 where
    pub label : i.from < length f.names
    pub there : (fetch : Fetch) → fetch_of t i.value ≡ Some fetch → IsThere f (position_of f i.from) (values_at f (position_of f i.from)) (base_of fetch)

  abbrev pub AreGood : List Phi → Type 0
  AreGood ps = Each (λ (p : Phi). Each IsGood p.incoming) ps

  -- a fetch at the end of a label's block
  pub record IsEnd (l : ℕ) (j : Instr) : Type 0 where
    pub name : ℕ
    pub value : ℕ
    pub fetch : Fetch
    pub same : j ≡ fetch_into name fetch
    pub low : lowest ≤ name
    pub high : name < limit
    pub found : fetch_of t (Operand.Local value) ≡ Some fetch
    pub there : IsThere f (position_of f l) (values_at f (position_of f l)) (base_of fetch)

  abbrev pub AllEnds : List (List Instr) → Type 0
  AllEnds ends = (l : ℕ) (j : Instr) → IsListed j (end_at ends l) → IsEnd l j

  -- the table has grown
  pub record IsGrown (ends now : List (List Instr)) : Type 0 where
    pub size : length now ≡ length ends
    pub keeps : (l : ℕ) (j : Instr) → IsListed j (end_at ends l) → IsListed j (end_at now l)
    pub all : AllEnds ends → AllEnds now

  same_grown : (ends : List (List Instr)) → IsGrown ends ends
  same_grown ends = record { size = refl; keeps = λ l j h. h; all = λ h. h }

  pub grown_both : (a b c : List (List Instr)) → IsGrown a b → IsGrown b c → IsGrown a c
  grown_both a b c h k = record { size = k.size ∙ h.size; keeps = λ l j e. k.keeps l j (h.keeps l j e); all = λ e. k.all (h.all e) }

  -- ---- one operand

  end_set : (ends : List (List Instr)) (l : ℕ) (es : List Instr) → l < length ends → end_at (slice_set ends l es) l ≡ es
  end_set ends l es lt = ap (λ (o : Option (List Instr)). unwrap_or o []) (set_here ends l es lt)

  end_other : (ends : List (List Instr)) (l k : ℕ) (es : List Instr) → (l ≡ k → ⊥) → end_at (slice_set ends l es) k ≡ end_at ends k
  end_other ends l k es h = ap (λ (o : Option (List Instr)). unwrap_or o []) (set_other ends l k es h)

  -- a local is fetched
  is_local : (x : Operand) (fetch : Fetch) → fetch_of t x ≡ Some fetch → (v : ℕ) × (fetch_of t (Operand.Local v) ≡ Some fetch)
  is_local (Operand.Local v) fetch e = (v, e)
  is_local _ fetch e = absurd (cc)

  grown_one : (ends : List (List Instr)) (n : ℕ) (i : Incoming) (o : Option Fetch) → fetch_of t i.value ≡ o → IsGood i → length ends ≡ length f.names → lowest ≤ n → next_by n o ≤ limit → IsGrown ends (with_end ends i.from n o)
  grown_one ends n i None e good size lo hi = same_grown ends
  grown_one ends n i (Some fetch) e good size lo hi =
      let old : List Instr = end_at ends i.from in
      let new : List Instr = old ++ fetch_into n fetch ∷ [] in
      let low : i.from < length f.names = good.label in
      let lt : i.from < length ends = omega (arith, low, size) in
      record {
        size = set_length ends i.from new;
        keeps = λ l j h.
            ⊎_elim
            (λ (same : i.from ≡ l).
            subst (λ (k : ℕ). IsListed j (end_at (slice_set ends i.from new) k)) same
            (subst (IsListed j) (sym (end_set ends i.from new lt)) (listed_left j old (fetch_into n fetch ∷ []) (subst (λ (k : ℕ). IsListed j (end_at ends k)) (sym same) h))))
            (λ (other : i.from ≡ l → ⊥). subst (IsListed j) (sym (end_other ends i.from l new other)) h)
            (is_number i.from l);
        all = λ all l j h.
            ⊎_elim
            (λ (same : i.from ≡ l).
            let v = is_local i.value fetch e in
            ⊎_elim
            (λ before. all l j (subst (λ (k : ℕ). IsListed j (end_at ends k)) same before))
            (λ here. ⊎_elim
            (λ (is : j ≡ fetch_into n fetch). record { name = n; value = v.0; fetch = fetch; same = is; low = lo; high = omega (arith, hi); found = v.1; there = subst (λ (k : ℕ). IsThere f (position_of f k) (values_at f (position_of f k)) (base_of fetch)) same (good.there fetch e) })
            (λ (none : ⊥). absurd none) here)
            (listed_either j old (fetch_into n fetch ∷ []) (subst (IsListed j) (end_set ends i.from new lt) (subst (λ (k : ℕ). IsListed j (end_at (slice_set ends i.from new) k)) (sym same) h))))
            (λ (other : i.from ≡ l → ⊥). all l j (subst (IsListed j) (end_other ends i.from l new other) h))
            (is_number i.from l);
      }

  has_one : (ends : List (List Instr)) (n : ℕ) (i : Incoming) (o : Option Fetch) → IsGood i → length ends ≡ length f.names → (fetch : Fetch) → o ≡ Some fetch → IsListed (fetch_into n fetch) (end_at (with_end ends i.from n o) i.from)
  has_one ends n i None good size fetch e = absurd (cc)
  has_one ends n i (Some own) good size fetch e =
      let low : i.from < length f.names = good.label in
      let lt : i.from < length ends = omega (arith, low, size) in
      let is_one : own ≡ fetch = cc in
      subst (λ (x : Fetch). IsListed (fetch_into n x) (end_at (slice_set ends i.from (end_at ends i.from ++ fetch_into n own ∷ [])) i.from)) is_one
      (subst (IsListed (fetch_into n own)) (sym (end_set ends i.from (end_at ends i.from ++ fetch_into n own ∷ []) lt)) (listed_right (fetch_into n own) (end_at ends i.from) (fetch_into n own ∷ []) (inl refl)))

  -- ---- all of them

  pub grown_incoming : (n : ℕ) (ends : List (List Instr)) (is : List Incoming) → Each IsGood is → length ends ≡ length f.names → lowest ≤ n → next_after_all t n (map (λ (i : Incoming). i.value) is) ≤ limit → IsGrown ends (ends_of_incoming t n ends is)
  grown_incoming n ends [] good size lo hi = same_grown ends
  grown_incoming n ends (i ∷ is) good size lo hi =
      let up : n ≤ next_after t n i.value = fetch_rises t n (i.value ∷ []) in
      let more : next_after t n i.value ≤ next_after_all t (next_after t n i.value) (map (λ (i : Incoming). i.value) is) = fetch_rises t (next_after t n i.value) (map (λ (i : Incoming). i.value) is) in
      let now : List (List Instr) = with_end ends i.from n (fetch_of t i.value) in
      let one : IsGrown ends now = grown_one ends n i (fetch_of t i.value) refl good.0 size lo (omega (arith, more, hi)) in
      grown_both ends now (ends_of_incoming t (next_after t n i.value) now is) one (grown_incoming (next_after t n i.value) now is good.1 (one.size ∙ size) (omega (arith, lo, up)) hi)

  pub grown_phis : (n : ℕ) (ends : List (List Instr)) (ps : List Phi) → AreGood ps → length ends ≡ length f.names → lowest ≤ n → next_after_phis t n ps ≤ limit → IsGrown ends (ends_of_phis t n ends ps)
  grown_phis n ends [] good size lo hi = same_grown ends
  grown_phis n ends (p ∷ ps) good size lo hi =
      let up : n ≤ next_after_phi t n p = fetch_rises t n (map (λ (i : Incoming). i.value) p.incoming) in
      let more : next_after_phi t n p ≤ next_after_phis t (next_after_phi t n p) ps = phis_rise t (next_after_phi t n p) ps in
      let now : List (List Instr) = ends_of_incoming t n ends p.incoming in
      let one : IsGrown ends now = grown_incoming n ends p.incoming good.0 size lo (omega (arith, more, hi)) in
      grown_both ends now (ends_of_phis t (next_after_phi t n p) now ps) one (grown_phis (next_after_phi t n p) now ps good.1 (one.size ∙ size) (omega (arith, lo, up)) hi)

  pub grown_blocks : (n : ℕ) (ends : List (List Instr)) (bs : List Block) → Each (λ (b : Block). AreGood b.phis) bs → length ends ≡ length f.names → lowest ≤ n → next_after_phis_by t n bs ≤ limit → IsGrown ends (ends_of_blocks t n ends bs)
  grown_blocks n ends [] good size lo hi = same_grown ends
  grown_blocks n ends (b ∷ bs) good size lo hi =
      let up : n ≤ next_after_phis t n b.phis = phis_rise t n b.phis in
      let more : next_after_phis t n b.phis ≤ next_after_phis_by t (next_after_phis t n b.phis) bs = blocks_rise t (next_after_phis t n b.phis) bs in
      let now : List (List Instr) = ends_of_phis t n ends b.phis in
      let one : IsGrown ends now = grown_phis n ends b.phis good.0 size lo (omega (arith, more, hi)) in
      grown_both ends now (ends_of_blocks t (next_after_phis t n b.phis) now bs) one (grown_blocks (next_after_phis t n b.phis) now bs good.1 (one.size ∙ size) (omega (arith, lo, up)) hi)

  -- the fetches of a phi's operands stand at the ends of their blocks
  abbrev pub HasEnds : List (List Instr) → ℕ → List Incoming → Type 0
  HasEnds now n [] = Unit {0}
  HasEnds now n (i ∷ is) = ((fetch : Fetch) → fetch_of t i.value ≡ Some fetch → IsListed (fetch_into n fetch) (end_at now i.from)) × HasEnds now (next_after t n i.value) is

  abbrev pub HaveEnds : List (List Instr) → ℕ → List Phi → Type 0
  HaveEnds now n [] = Unit {0}
  HaveEnds now n (p ∷ ps) = HasEnds now n p.incoming × HaveEnds now (next_after_phi t n p) ps

  pub ends_kept : (ends now : List (List Instr)) → ((l : ℕ) (j : Instr) → IsListed j (end_at ends l) → IsListed j (end_at now l)) → (n : ℕ) (is : List Incoming) → HasEnds ends n is → HasEnds now n is
  ends_kept ends now keeps n [] h = tt
  ends_kept ends now keeps n (i ∷ is) h = ((λ fetch e. keeps i.from (fetch_into n fetch) (h.0 fetch e)), ends_kept ends now keeps (next_after t n i.value) is h.1)

  has_incoming : (n : ℕ) (ends : List (List Instr)) (is : List Incoming) → Each IsGood is → length ends ≡ length f.names → lowest ≤ n → next_after_all t n (map (λ (i : Incoming). i.value) is) ≤ limit → HasEnds (ends_of_incoming t n ends is) n is
  has_incoming n ends [] good size lo hi = tt
  has_incoming n ends (i ∷ is) good size lo hi =
      let up : n ≤ next_after t n i.value = fetch_rises t n (i.value ∷ []) in
      let more : next_after t n i.value ≤ next_after_all t (next_after t n i.value) (map (λ (i : Incoming). i.value) is) = fetch_rises t (next_after t n i.value) (map (λ (i : Incoming). i.value) is) in
      let now : List (List Instr) = with_end ends i.from n (fetch_of t i.value) in
      let one : IsGrown ends now = grown_one ends n i (fetch_of t i.value) refl good.0 size lo (omega (arith, more, hi)) in
      let rest : IsGrown now (ends_of_incoming t (next_after t n i.value) now is) = grown_incoming (next_after t n i.value) now is good.1 (one.size ∙ size) (omega (arith, lo, up)) hi in (
        λ fetch e. rest.keeps i.from (fetch_into n fetch) (has_one ends n i (fetch_of t i.value) good.0 size fetch e),
        has_incoming (next_after t n i.value) now is good.1 (one.size ∙ size) (omega (arith, lo, up)) hi,
      )

  pub has_phis : (n : ℕ) (ends : List (List Instr)) (ps : List Phi) → AreGood ps → length ends ≡ length f.names → lowest ≤ n → next_after_phis t n ps ≤ limit → (now : List (List Instr)) → IsGrown (ends_of_phis t n ends ps) now → HaveEnds now n ps
  has_phis n ends [] good size lo hi now grown = tt
  has_phis n ends (p ∷ ps) good size lo hi now grown =
      let up : n ≤ next_after_phi t n p = fetch_rises t n (map (λ (i : Incoming). i.value) p.incoming) in
      let more : next_after_phi t n p ≤ next_after_phis t (next_after_phi t n p) ps = phis_rise t (next_after_phi t n p) ps in
      let mid : List (List Instr) = ends_of_incoming t n ends p.incoming in
      let one : IsGrown ends mid = grown_incoming n ends p.incoming good.0 size lo (omega (arith, more, hi)) in
      let rest : IsGrown mid (ends_of_phis t (next_after_phi t n p) mid ps) = grown_phis (next_after_phi t n p) mid ps good.1 (one.size ∙ size) (omega (arith, lo, up)) hi in
      let whole : IsGrown mid now = grown_both mid (ends_of_phis t (next_after_phi t n p) mid ps) now rest grown in (
        ends_kept mid now whole.keeps n p.incoming (has_incoming n ends p.incoming good.0 size lo (omega (arith, more, hi))),
        has_phis (next_after_phi t n p) mid ps good.1 (one.size ∙ size) (omega (arith, lo, up)) hi now grown,
      )

  pub no_ends : (k l : ℕ) (j : Instr) → IsListed j (end_at (replicate k []) l) → ⊥
  no_ends zero l j h = h
  no_ends (suc k) zero j h = h
  no_ends (suc k) (suc l) j h = no_ends k l j h
