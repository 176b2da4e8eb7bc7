use Rattle.std.proofs.Common.{◌≡◌, drop, flat_map, fold}
use Rattle.nz_log.specs.Keys.{fed_part}
use Rattle.nz_log.proofs.atoms.hash_parts.Given as goal

-- what is fed so far, with the parts that are left, is what is fed of all
abbrev pub invariant-loop-part : goal.invariant-loop-part
invariant-loop-part g l = fold g.H.Hasher.write l.state (flat_map fed_part (drop l.part-index l.parts)) ≡ fold g.H.Hasher.write l.fn.state (flat_map fed_part l.parts)
