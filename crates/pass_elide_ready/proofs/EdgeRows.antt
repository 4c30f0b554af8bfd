-- The edges of a function, one by one.
use Rattle.std.proofs.Common.{◌≡◌, ◌⊎◌, inl, inr, ⊎_elim, ◌+◌, ℕ, zero, suc, Bool, true, false, List, [], ◌∷◌, ◌++◌, refl, sym, ap, ◌∙◌, subst, arith}
use Rattle.std.specs.Prelude.{Option, Some, slice_get}
use Rattle.elide_shape.specs.Edges.{edges_by, edges_of, edges_out}
use Rattle.elide_shape.specs.declared.edges.Edge.{Edge}
use Rattle.elide_sites.specs.Destroyed.{is_start, target_if, targets_of}
use Rattle.elide_sites.specs.declared.destroyed.Way.{Way}
use Rattle.pass_elide_edges.specs.pass_elide_proof.pass_proofs.flow_blocks.Kinds.{kind_in, kind_of}
use Rattle.pass_elide_edges.specs.pass_elide_proof.pass_proofs.flow_solver.Paths.{IsListed}
use Rattle.pass_elide_edges.specs.pass_elide_proof.pass_proofs.ir_model.Names.{position_of}
use Rattle.pass_elide_edges.specs.pass_elide_proof.pass_proofs.ir_model.declared.module.Block.{Block}
use Rattle.pass_elide_edges.specs.pass_elide_proof.pass_proofs.ir_model.declared.module.Function.{Function}
use Rattle.pass_elide_edges.specs.pass_elide_proof.pass_proofs.ir_paths.Paths.{targets}

-- ---- lists

pub front_listed : {A : Type 0} (xs ys : List A) (x : A) → IsListed x xs → IsListed x (xs ++ ys)
front_listed [] ys x l = absurd l
front_listed (y ∷ xs) ys x (inl e) = inl e
front_listed (y ∷ xs) ys x (inr l) = inr (front_listed xs ys x l)

pub behind_listed : {A : Type 0} (xs ys : List A) (x : A) → IsListed x ys → IsListed x (xs ++ ys)
behind_listed [] ys x l = l
behind_listed (y ∷ xs) ys x l = inr (behind_listed xs ys x l)

pub listed_either : {A : Type 0} (xs ys : List A) (x : A) → IsListed x (xs ++ ys) → IsListed x xs ⊎ IsListed x ys
listed_either [] ys x l = inr l
listed_either (y ∷ xs) ys x (inl e) = inl (inl e)
listed_either (y ∷ xs) ys x (inr l) = ⊎_elim
    (λ (n : IsListed x xs). inl (inr n))
    (λ (n : IsListed x ys). inr n)
    (listed_either xs ys x l)

-- ---- edges

-- the edge at a position of the successors of a block
abbrev pub edge_at : Function → (from at label : ℕ) → Edge
edge_at f from at label = record { from = from; to = position_of f label; kind = kind_of f from at }

record IsOut (f : Function) (from at : ℕ) (ls : List ℕ) (e : Edge) : Type 0 where
  further : ℕ
  label : ℕ
  there : slice_get ls further ≡ Some label
  is : e ≡ edge_at f from (at + further) label

out_of : (f : Function) (from at : ℕ) (ls : List ℕ) (e : Edge) → IsListed e (edges_out f from at ls)
    → IsOut f from at ls e
out_of f from at [] e l = absurd l
out_of f from at (t ∷ ls) e (inl s) =
    let z : at ≡ at + 0 = omega arith in
    record { further = 0; label = t; there = refl; is = s ∙ ap (λ (n : ℕ). edge_at f from n t) z }
out_of f from at (t ∷ ls) e (inr l) =
    let x = out_of f from (at + 1) ls e l in
    record {
      further = suc x.further;
      label = x.label;
      there = x.there;
      is = x.is
          ∙ ap (λ (n : ℕ). edge_at f from n x.label) (next x.further);
    }
  where
    next : (n : ℕ) → (at + 1) + n ≡ at + suc n
    next n = omega arith

out_there : (f : Function) (from at : ℕ) (ls : List ℕ) (k label : ℕ) → slice_get ls k ≡ Some label
    → IsListed (edge_at f from (at + k) label) (edges_out f from at ls)
out_there f from at [] k label e = absurd (cc)
out_there f from at (t ∷ ls) zero label e =
    let same : t ≡ label = cc in
    let z : at + 0 ≡ at = omega arith in
    inl ((λ i. edge_at f from (z i) label) ∙ ap (edge_at f from at) (sym same))
out_there f from at (t ∷ ls) (suc k) label e =
    let z : (at + 1) + k ≡ at + suc k = omega arith in
    inr (subst (λ (n : ℕ). IsListed (edge_at f from n label) (edges_out f from (at + 1) ls)) z
    (out_there f from (at + 1) ls k label e))

-- an edge of a function
pub record IsEdgeOf (f : Function) (e : Edge) : Type 0 where
  pub block : Block
  pub got : slice_get f.blocks e.from ≡ Some block
  pub at : ℕ
  pub label : ℕ
  pub target : slice_get (targets block.term) at ≡ Some label
  pub leads : e.to ≡ position_of f label
  pub kind : e.kind ≡ kind_in (Some block) at

record IsIn (f : Function) (from : ℕ) (bs : List Block) (e : Edge) : Type 0 where
  index : ℕ
  block : Block
  got : slice_get bs index ≡ Some block
  at : ℕ
  label : ℕ
  target : slice_get (targets block.term) at ≡ Some label
  is : e ≡ edge_at f (from + index) at label

in_blocks : (f : Function) (from : ℕ) (bs : List Block) (e : Edge) → IsListed e (edges_by f from bs) → IsIn f from bs e
in_blocks f from [] e l = absurd l
in_blocks f from (b ∷ bs) e l = ⊎_elim
    (λ (n : IsListed e (edges_out f from 0 (targets b.term))).
    let x = out_of f from 0 (targets b.term) e n in
    record {
      index = 0;
      block = b;
      got = refl;
      at = x.further;
      label = x.label;
      target = x.there;
      is = x.is
          ∙ here x.further x.label;
    })
    (λ (n : IsListed e (edges_by f (from + 1) bs)).
    let x = in_blocks f (from + 1) bs e n in
    record {
      index = suc x.index;
      block = x.block;
      got = x.got;
      at = x.at;
      label = x.label;
      target = x.target;
      is =
          x.is ∙ next x.index x.at x.label;
    })
    (listed_either (edges_out f from 0 (targets b.term)) (edges_by f (from + 1) bs) e l)
  where
    here : (k label : ℕ) → edge_at f from (0 + k) label ≡ edge_at f (from + 0) k label
    here k label =
        let z : from ≡ from + 0 = omega arith in
        let w : 0 + k ≡ k = omega arith in
        λ i. edge_at f (z i) (w i) label

    next : (k at label : ℕ) → edge_at f ((from + 1) + k) at label ≡ edge_at f (from + suc k) at label
    next k at label =
        let z : (from + 1) + k ≡ from + suc k = omega arith in
        ap (λ (n : ℕ). edge_at f n at label) z

pub edge_is : (f : Function) (e : Edge) → IsListed e (edges_of f) → IsEdgeOf f e
unfolding edges_of
edge_is f e l =
    let x = in_blocks f 0 f.blocks e l in
    let z : 0 + x.index ≡ x.index = omega arith in
    let from : e.from ≡ x.index = ap (λ (y : Edge). y.from) x.is ∙ z in
    let got : slice_get f.blocks (0 + x.index) ≡ Some x.block = ap (slice_get f.blocks) z ∙ x.got in
    record {
      block = x.block;
      got = ap (slice_get f.blocks) from ∙ x.got;
      at = x.at;
      label = x.label;
      target = x.target;
      leads = ap (λ (y : Edge). y.to) x.is;
      kind = ap (λ (y : Edge). y.kind) x.is ∙ ap (λ (o : Option Block). kind_in o x.at) got;
    }

in_there : (f : Function) (from : ℕ) (bs : List Block) (k : ℕ) (b : Block) (at label : ℕ) → slice_get bs k ≡ Some b
    → slice_get (targets b.term) at ≡ Some label → IsListed (edge_at f (from + k) at label) (edges_by f from bs)
in_there f from [] k b at label e h = absurd (cc)
in_there f from (c ∷ bs) zero b at label e h =
    let same : c ≡ b = cc in
    let z : 0 + at ≡ at = omega arith in
    let w : from ≡ from + 0 = omega arith in
    front_listed (edges_out f from 0 (targets c.term)) (edges_by f (from + 1) bs) (edge_at f (from + 0) at label)
    (subst (λ (n : ℕ). IsListed (edge_at f n at label) (edges_out f from 0 (targets c.term))) w
    (subst (λ (n : ℕ). IsListed (edge_at f from n label) (edges_out f from 0 (targets c.term))) z
    (out_there f from 0 (targets c.term) at label (ap (λ (x : Block). slice_get (targets x.term) at) same ∙ h))))
in_there f from (c ∷ bs) (suc k) b at label e h =
    let z : (from + 1) + k ≡ from + suc k = omega arith in
    behind_listed (edges_out f from 0 (targets c.term)) (edges_by f (from + 1) bs) (edge_at f (from + suc k) at label)
    (subst (λ (n : ℕ). IsListed (edge_at f n at label) (edges_by f (from + 1) bs)) z
    (in_there f (from + 1) bs k b at label e h))

pub edge_listed : (f : Function) (k : ℕ) (b : Block) (at label : ℕ) → slice_get f.blocks k ≡ Some b
    → slice_get (targets b.term) at ≡ Some label → IsListed (edge_at f k at label) (edges_of f)
unfolding edges_of
edge_listed f k b at label e h =
    let z : 0 + k ≡ k = omega arith in
    subst (λ (n : ℕ). IsListed (edge_at f n at label) (edges_by f 0 f.blocks)) z
    (in_there f 0 f.blocks k b at label e h)

-- ---- where paths begin

pub record IsBegun (way : Way) (es : List Edge) (b : ℕ) : Type 0 where
  pub edge : Edge
  pub listed : IsListed edge es
  pub starts : is_start way edge.kind ≡ true
  pub to : b ≡ edge.to

pub begun : (way : Way) (es : List Edge) (b : ℕ) → IsListed b (targets_of way es) → IsBegun way es b
begun way [] b l = absurd l
begun way (e ∷ es) b l = ⊎_elim
    (λ (n : IsListed b (target_if (is_start way e.kind) e)). first (is_start way e.kind) refl n)
    (λ (n : IsListed b (targets_of way es)).
    let x = begun way es b n in
    record { edge = x.edge; listed = inr x.listed; starts = x.starts; to = x.to })
    (listed_either (target_if (is_start way e.kind) e) (targets_of way es) b l)
  where
    first : (t : Bool) → is_start way e.kind ≡ t → IsListed b (target_if t e) → IsBegun way (e ∷ es) b
    first true d (inl s) = record { edge = e; listed = inl refl; starts = d; to = s }
    first true d (inr n) = absurd n
    first false d n = absurd n

pub begins_there : (way : Way) (es : List Edge) (e : Edge) → IsListed e es → is_start way e.kind ≡ true
    → IsListed e.to (targets_of way es)
begins_there way [] e l s = absurd l
begins_there way (x ∷ es) e (inl d) s =
    front_listed (target_if (is_start way x.kind) x) (targets_of way es) e.to
    (subst (λ (t : Bool). IsListed e.to (target_if t x)) (sym (ap (λ (y : Edge). is_start way y.kind) (sym d) ∙ s))
    (inl (ap (λ (y : Edge). y.to) d)))
begins_there way (x ∷ es) e (inr l) s =
    behind_listed (target_if (is_start way x.kind) x) (targets_of way es) e.to (begins_there way es e l s)
