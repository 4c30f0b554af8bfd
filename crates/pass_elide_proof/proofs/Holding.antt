-- Places behind a call from which nothing has been destroyed.
use Rattle.std.proofs.Common.{Bool, true, false, List, [], ◌∷◌, ◌++◌, ◌&&◌, ◌||◌}
use Rattle.std.specs.Prelude.{IsFalse, IsTrue}
use Rattle.elide_shape.specs.Calls.{value_at}
use Rattle.elide_sites.specs.Sites.{IsDestroyed, destroys_of, ends_use}
use Rattle.pass_proofs.proofs.ir_laws.facts.Truth.{itself}
use Rattle.pass_proofs.specs.flow_points.Reached.{IsReached}
use Rattle.pass_proofs.specs.ir_model.declared.module.Function.{Function}
use Rattle.pass_proofs.specs.ir_paths.Paths.{IsPath, has_point, nexts}
use Rattle.pass_proofs.specs.ir_paths.declared.point.Point.{Point}

extend : (f : Function) (avoided : List Point) (a : Point) (between : List Point) (p q : Point)
    → IsPath f avoided a between p → IsFalse (has_point avoided p) → IsTrue (has_point (nexts f p) q)
    → IsPath f avoided a (between ++ p ∷ []) q
extend f avoided a [] p q path lacks next = (path, lacks, next)
extend f avoided a (v ∷ vs) p q path lacks next = (path.0, path.1, extend f avoided v vs p q path.2 lacks next)

pub on : (f : Function) (starts avoided : List Point) (p q : Point) → IsReached f starts avoided p
    → IsFalse (has_point avoided p) → IsTrue (has_point (nexts f p) q) → IsReached f starts avoided q
on f starts avoided p q r lacks next = record {
  start = r.start;
  is_start = r.is_start;
  path = record {
    between = r.path.between ++ p ∷ [];
    is_path = extend f avoided r.start r.path.between p q r.path.is_path lacks next;
  };
}

has_itself : (p : Point) → IsTrue (has_point (p ∷ []) p)
has_itself p = λ i. (itself p.block i && itself p.at i) || false

pub called : (f : Function) (avoided : List Point) (call q : Point) → IsTrue (has_point (nexts f call) q)
    → IsReached f (call ∷ []) avoided q
called f avoided call q next = record {
  start = call;
  is_start = has_itself call;
  path = record { between = []; is_path = next };
}

pub ends : (f : Function) (call p : Point) → IsDestroyed f call
    → IsReached f (call ∷ []) (destroys_of f (value_at f call)) p → IsTrue (ends_use f call p) → ⊥
ends f call p destroyed reached is = let lacks = destroyed.before p reached in both (ends_use f call p) is lacks
  where
    both : (t : Bool) → IsTrue t → IsFalse t → ⊥
    both true holds lacks = absurd (cc)
    both false holds lacks = absurd (cc)
