-- Settings past the ends of their lists.
use Rattle.std.proofs.Common.{◌≡◌, ℕ, [], None, slice_get, slice_index_or, ap}
use Rattle.luo_model.specs.declared.program.Shape.TheVariants.{Union}
use Rattle.luo_model.specs.Program.{no_node}
use Rattle.luo_rules.specs.declared.setting.Setting.{Setting}
use Rattle.luo_rules.specs.Settings.{def_node, shape_at, no_signature}
use Rattle.luo_rules.proofs.ListFacts.{get_or-none}

pub def_node-none : (s : Setting) (i : ℕ) → slice_get s.defs i ≡ None → def_node s i ≡ 0
def_node-none s i e = ap (λ d. d.whole.node) (get_or-none s.defs i (record { name = []; whole = record { node = 0; name = None } }) e)

pub shape_at-none : (s : Setting) (x : ℕ) → slice_get s.nodes x ≡ None → shape_at s x ≡ Union []
shape_at-none s x e = ap (λ n. n.shape) (get_or-none s.nodes x no_node e)

pub signature-none : (s : Setting) (f : ℕ) → slice_get s.signatures f ≡ None → slice_index_or s.signatures f no_signature ≡ no_signature
signature-none s f e = get_or-none s.signatures f no_signature e
