-- Each step of a framed run keeps that what a coro.destroy has called is to free its instance.
use Rattle.std.proofs.Common.{◌≡◌, ◌≢◌, ◌⊎◌, inl, inr, ⊎_elim, ◌<◌, ◌+◌, ℕ, zero, suc, true, false, not, List, [], ◌∷◌, ◌++◌, length, refl, sym, ap, ◌∙◌, subst, arith, ◌||◌}
use Rattle.std.specs.List.{list_any}
use Rattle.std.specs.Prelude.{Option, Some, slice_get}
use Rattle.elide_shape.specs.Edges.{edges_by, edges_of, edges_out}
use Rattle.elide_shape.specs.declared.edges.Edge.{Edge}
use Rattle.elide_sites.specs.Destroyed.{IsOn, Step, has_at, has_in, is_free}
use Rattle.elide_sites.specs.declared.destroyed.Way.{Way}
use Rattle.pass_elide_proof.specs.Destroying.{AreToFree, Entering, HasToFree, IsToFree, Released, Unfreed}
use Rattle.pass_elide_proof.specs.Places.{instrs_in, instrs_of}
use Rattle.pass_proofs.proofs.ir_laws.facts.Lists.{get_within}
use Rattle.pass_proofs.proofs.ir_laws.facts.Truth.{either}
use Rattle.pass_proofs.specs.flow_blocks.Kinds.{kind_of}
use Rattle.pass_proofs.specs.flow_solver.Paths.{IsListed}
use Rattle.pass_proofs.specs.ir_model.Names.{function_at, position_of}
use Rattle.pass_proofs.specs.ir_model.declared.instr.Instr.{Instr}
use Rattle.pass_proofs.specs.ir_model.declared.module.Block.{Block}
use Rattle.pass_proofs.specs.ir_model.declared.module.Function.{Function}
use Rattle.pass_proofs.specs.ir_model.declared.module.Module.{Module}
use Rattle.pass_proofs.specs.ir_paths.Paths.{targets}
use Rattle.pass_proofs.specs.run_source.declared.state.Activation.{Activation}
use Rattle.pass_proofs.specs.run_source.declared.state.Instance.{Instance}

-- ---- instances

-- each instance is there, and is released if it was
pub record StaysReleased (xs ys : List Instance) : Type 0 where
  pub each : (i : ℕ) (x : Instance) → slice_get xs i ≡ Some x
      → (y : Instance) × (slice_get ys i ≡ Some y) × (x.released ≡ true → y.released ≡ true)

to_free_over : (f : Function) (x y : Instance) (a : Activation) → (x.released ≡ true → y.released ≡ true)
    → IsToFree f x a → IsToFree f y a
to_free_over f x y a on (Released is) = Released (on is)
to_free_over f x y a on (Unfreed way none mode) = Unfreed way none mode
to_free_over f x y a on (Entering from label mode way) = Entering from label mode way

module _ (m : Module) (xs ys : List Instance) (stays : StaysReleased xs ys) where
  has_over : (a : Activation) → HasToFree m xs a → HasToFree m ys a
  has_over a h =
      let y = stays.each h.number h.instance h.there in
      record {
        number = h.number;
        instance = y.0;
        own = h.own;
        there = y.1;
        frees = to_free_over (function_at m a.func) h.instance y.0 a y.2 h.frees;
      }

  pub all_over : (bs : List Activation) → AreToFree m xs bs → AreToFree m ys bs
  all_over [] h = tt
  all_over (a ∷ []) h = tt
  all_over (a ∷ b ∷ bs) h = ((λ is. has_over a (h.0 is)), all_over (b ∷ bs) h.1)

-- ---- the topmost activation changes

module _ (m : Module) (xs : List Instance) (a a' : Activation) where
  pub top_changed : (bs : List Activation) → (HasToFree m xs a → HasToFree m xs a') → AreToFree m xs (a ∷ bs)
      → AreToFree m xs (a' ∷ bs)
  top_changed [] on h = tt
  top_changed (b ∷ bs) on h = ((λ is. on (h.0 is)), h.1)

-- it stays where it is
pub record StaysPut (a a' : Activation) : Type 0 where
  pub func : a'.func ≡ a.func
  pub block : a'.block ≡ a.block
  pub at : a'.at ≡ a.at
  pub mode : a'.mode ≡ a.mode
  pub instance : a'.instance ≡ a.instance

-- it goes on behind an instruction
pub record GoesFurther (a a' : Activation) : Type 0 where
  pub func : a'.func ≡ a.func
  pub block : a'.block ≡ a.block
  pub at : a'.at ≡ a.at + 1
  pub mode : a'.mode ≡ a.mode
  pub instance : a'.instance ≡ a.instance

module _ (m : Module) (xs : List Instance) (a a' : Activation) (put : StaysPut a a') where
  put_frees : (f : Function) (x : Instance) → IsToFree f x a → IsToFree f x a'
  put_frees f x (Released is) = Released is
  put_frees f x (Unfreed way none mode) =
      Unfreed (subst (IsOn Way.Unfreed f) (sym put.block) way)
      (λ k i lt there.
      none k i (subst (λ (n : ℕ). k < n) put.at lt)
      (ap (λ (b : ℕ). slice_get (instrs_of f b) k) (sym put.block) ∙ there))
      (λ from label is. mode from label (sym put.mode ∙ is))
  put_frees f x (Entering from label mode way) = Entering from label (put.mode ∙ mode) way

  pub has_put : HasToFree m xs a → HasToFree m xs a'
  has_put h = record {
    number = h.number;
    instance = h.instance;
    own = put.instance ∙ h.own;
    there = h.there;
    frees = subst (λ (n : ℕ). IsToFree (function_at m n) h.instance a') (sym put.func)
        (put_frees (function_at m a.func) h.instance h.frees);
  }

module _ (m : Module) (xs : List Instance) (a a' : Activation) (goes : GoesFurther a a')
    (calm : (i : Instr) → slice_get (instrs_of (function_at m a.func) a.block) a.at ≡ Some i → is_free i ≡ false) where
  abbrev f : Function
  f = function_at m a.func

  further_none : ((k : ℕ) (i : Instr) → k < a.at → slice_get (instrs_of f a.block) k ≡ Some i → is_free i ≡ false)
      → (k : ℕ) (i : Instr) → k < a'.at → slice_get (instrs_of f a'.block) k ≡ Some i → is_free i ≡ false
  further_none none k i lt there = by (either k a.at)
    where
      at_block : slice_get (instrs_of f a.block) k ≡ Some i
      at_block = ap (λ (b : ℕ). slice_get (instrs_of f b) k) (sym goes.block) ∙ there

      before : (k ≡ a.at → ⊥) → k < a.at
      before ne = let at = goes.at in below k a.at a'.at lt at ne
        where
          below : (j n l : ℕ) → j < l → l ≡ n + 1 → (j ≡ n → ⊥) → j < n
          below j n l lt is ne = ⊎_elim (λ same. absurd (ne same)) (λ other. less j n l lt is other) (either j n)
            where
              less : (j n l : ℕ) → j < l → l ≡ n + 1 → j ≢ n → j < n
              less j n l lt is other = omega (arith, lt, is, other)

      by : (k ≡ a.at) ⊎ (k ≡ a.at → ⊥) → is_free i ≡ false
      by (inl same) = calm i (ap (slice_get (instrs_of f a.block)) (sym same) ∙ at_block)
      by (inr ne) = none k i (before ne) at_block

  further_frees : (x : Instance) → IsToFree f x a → IsToFree f x a'
  further_frees x (Released is) = Released is
  further_frees x (Unfreed way none mode) =
      Unfreed (subst (IsOn Way.Unfreed f) (sym goes.block) way) (further_none none)
      (λ from label is. mode from label (sym goes.mode ∙ is))
  further_frees x (Entering from label mode way) = Entering from label (goes.mode ∙ mode) way

  pub has_further : HasToFree m xs a → HasToFree m xs a'
  has_further h = record {
    number = h.number;
    instance = h.instance;
    own = goes.instance ∙ h.own;
    there = h.there;
    frees = subst (λ (n : ℕ). IsToFree (function_at m n) h.instance a') (sym goes.func)
        (further_frees h.instance h.frees);
  }

-- ---- edges

pub listed_left : {A : Type 0} (x : A) (xs ys : List A) → IsListed x xs → IsListed x (xs ++ ys)
listed_left x [] ys l = absurd l
listed_left x (y ∷ xs) ys (inl is) = inl is
listed_left x (y ∷ xs) ys (inr l) = inr (listed_left x xs ys l)

pub listed_right : {A : Type 0} (x : A) (xs ys : List A) → IsListed x ys → IsListed x (xs ++ ys)
listed_right x [] ys l = l
listed_right x (y ∷ xs) ys l = inr (listed_right x xs ys l)

-- an edge of a list from one block to another one
pub record IsEdgeIn (edges : List Edge) (from to : ℕ) : Type 0 where
  pub edge : Edge
  pub listed : IsListed edge edges
  pub starts_at : edge.from ≡ from
  pub leads_to : edge.to ≡ to

out_has : (f : Function) (from at : ℕ) (ls : List ℕ) (l : ℕ) → IsListed l ls
    → IsEdgeIn (edges_out f from at ls) from (position_of f l)
out_has f from at [] l listed = absurd listed
out_has f from at (k ∷ ls) l (inl is) = record {
  edge = record { from = from; to = position_of f k; kind = kind_of f from at };
  listed = inl refl;
  starts_at = refl;
  leads_to = ap (position_of f) (sym is);
}
out_has f from at (k ∷ ls) l (inr listed) =
    let rest = out_has f from (at + 1) ls l listed in
    record { edge = rest.edge; listed = inr rest.listed; starts_at = rest.starts_at; leads_to = rest.leads_to }

by_has : (f : Function) (from : ℕ) (bs : List Block) (k : ℕ) (b : Block) (l : ℕ) → slice_get bs k ≡ Some b
    → IsListed l (targets b.term) → IsEdgeIn (edges_by f from bs) (from + k) (position_of f l)
by_has f from [] k b l at listed = absurd (cc)
by_has f from (c ∷ bs) zero b l at listed =
    let same : c ≡ b = cc in
    let out = out_has f from 0 (targets c.term) l (subst (λ (z : Block). IsListed l (targets z.term)) (sym same) listed)
    in
    record {
      edge = out.edge;
      listed = listed_left out.edge (edges_out f from 0 (targets c.term)) (edges_by f (from + 1) bs) out.listed;
      starts_at = let is = out.starts_at in omega (arith, is);
      leads_to = out.leads_to;
    }
by_has f from (c ∷ bs) (suc k) b l at listed =
    let rest = by_has f (from + 1) bs k b l at listed in
    record {
      edge = rest.edge;
      listed = listed_right rest.edge (edges_out f from 0 (targets c.term)) (edges_by f (from + 1) bs) rest.listed;
      starts_at = let is = rest.starts_at in omega (arith, is);
      leads_to = rest.leads_to;
    }

edge_there : (f : Function) (block : ℕ) (b : Block) (l : ℕ) → slice_get f.blocks block ≡ Some b
    → IsListed l (targets b.term) → IsEdgeIn (edges_of f) block (position_of f l)
unfolding edges_of
edge_there f block b l at listed =
    let edge = by_has f 0 f.blocks block b l at listed in
    record {
      edge = edge.edge;
      listed = edge.listed;
      starts_at = let is = edge.starts_at in omega (arith, is);
      leads_to = edge.leads_to;
    }

none_any : (is : List Instr) → ((k : ℕ) (i : Instr) → slice_get is k ≡ Some i → is_free i ≡ false)
    → list_any is_free is ≡ false
none_any [] none = refl
none_any (i ∷ is) none =
    (λ j. none 0 i refl j || list_any is_free is) ∙ none_any is (λ k x at. none (suc k) x at)

-- a path goes on over an edge from the end of a block without a coro.free
pub way_on : (f : Function) (block : ℕ) (b : Block) (l : ℕ) → slice_get f.blocks block ≡ Some b
    → IsListed l (targets b.term)
    → ((k : ℕ) (i : Instr) → k < length b.instrs → slice_get (instrs_of f block) k ≡ Some i → is_free i ≡ false)
    → IsOn Way.Unfreed f block → IsOn Way.Unfreed f (position_of f l)
way_on f block b l at listed none way =
    let edge = edge_there f block b l at listed in
    subst (IsOn Way.Unfreed f) edge.leads_to
    (Step edge.edge (subst (IsOn Way.Unfreed f) (sym edge.starts_at) way) edge.listed
    (ap not (ap (has_at is_free f) edge.starts_at ∙ (ap (has_in is_free) at ∙ none_any b.instrs calm))))
  where
    calm : (k : ℕ) (i : Instr) → slice_get b.instrs k ≡ Some i → is_free i ≡ false
    calm k i there =
        none k i (get_within b.instrs k i there)
        (ap (λ (o : Option Block). slice_get (instrs_in o) k) at ∙ there)
