-- Any number of rounds that is enough gives the same expression of a node.
use Rattle.std.proofs.Common.{◌≡◌, ℕ, zero, suc, ◌+◌, ◌<◌, ◌≤◌, refl, ◌∙◌, ap, arith, List, [], ◌∷◌, inl, inr, length, Option, Some, None}
use Rattle.luo_finite.specs.Listing.{In}
use Rattle.luo_model.specs.declared.program.Part.{Part}
use Rattle.luo_model.specs.declared.program.Shape.{Shape}
use Rattle.luo_model.specs.declared.program.Shape.TheVariants as shape
use Rattle.luo_model.specs.Program.{Program, shape_of}
use Rattle.luo_model.specs.Invariant.{IsProgram, inner_parts}
use Rattle.luo_equation.specs.Expr as made
use Rattle.luo_equation.specs.Expr.{Expr, Exprs, expr}
use Rattle.luo_system.specs.Plain.{sum_of, product_of}
use Rattle.luo_system.specs.System.{named, exprs_of, shape_expr, node_expr, part_expr}
use Rattle.luo_system.proofs.Definitions.{part_there}

exprs-same : (e g : Part → Expr) (parts : List Part) → ((part : Part) → In part parts → e part ≡ g part) → exprs_of e parts ≡ exprs_of g parts
exprs-same e g [] h = refl
exprs-same e g (part ∷ parts) h = ap (λ a. expr a (exprs_of e parts)) (h part (inl refl)) ∙ ap (λ l. expr (g part) l) (exprs-same e g parts (λ v i. h v (inr i)))

shape-same_expr : (e g : Part → Expr) (s : Shape) → ((part : Part) → In part (inner_parts s) → e part ≡ g part) → shape_expr e s ≡ shape_expr g s
shape-same_expr e g (shape.Atom weight) h = refl
shape-same_expr e g (shape.Union parts) h = ap sum_of (exprs-same e g parts h)
shape-same_expr e g (shape.Product parts) h = ap product_of (exprs-same e g parts h)
shape-same_expr e g (shape.Coll kind part low high) h = ap (λ a. made.Coll kind a low high) (h part (inl refl))

named-same : (name : Option ℕ) (E G : Expr) → (name ≡ None → E ≡ G) → named name E ≡ named name G
named-same (Some i) E G h = refl
named-same None E G h = h refl

-- THE LAW
pub rounds-same : (p : Program) → IsProgram p → (r s x : ℕ) → x < length p.nodes → length p.nodes ≤ r + x → length p.nodes ≤ s + x → node_expr p r x ≡ node_expr p s x
rounds-same p q zero s x l a b = absurd (omega (arith, l, a))
rounds-same p q (suc r) zero x l a b = absurd (omega (arith, l, b))
rounds-same p q (suc r) (suc s) x l a b =
    shape-same_expr (λ part. named part.name (node_expr p r part.node)) (λ part. named part.name (node_expr p s part.node)) (shape_of p x) (λ part i.
    let w = part_there p q x (shape_of p x) refl part i in
    named-same part.name (node_expr p r part.node) (node_expr p s part.node) (λ o. let k = w.1 o in let c = w.0.0 in rounds-same p q r s part.node c (omega (arith, a, k)) (omega (arith, b, k))))

-- so a node is its construct, over the expressions of its parts
pub node-made : (p : Program) → IsProgram p → (x : ℕ) → x < length p.nodes → node_expr p (length p.nodes) x ≡ shape_expr (part_expr p) (shape_of p x)
node-made p q x l =
    rounds-same p q (length p.nodes) (suc (length p.nodes)) x l (omega arith) (omega arith)
