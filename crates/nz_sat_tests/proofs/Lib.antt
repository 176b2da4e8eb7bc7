mod ConsistentLiterals
mod HeldClauses
mod NotedAtoms
