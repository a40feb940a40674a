-- The laws of covers, depth and breadth hold of every plan.
use Rattle.std.proofs.Common.{ℕ, le_trans}
use Rattle.plan.specs.Plans.{Falls, horizon}
use Rattle.plan.specs.Laws.{CoverLaws}
use Rattle.plan.specs.Parts.{depth-grows, depth_le, holding-depth}
use Rattle.plan.specs.Covers.{cover-tiles, cover-once, cover-none, cover-breadth, breadth-grows, breadth-le}
use Rattle.plan.proofs.Agree.{cover-same, depth_same, breadth-same}

pub cover-laws : (p : ℕ → ℕ) → Falls p → CoverLaws p
cover-laws p falls = record {
  tiles = cover-tiles p horizon falls;
  once = cover-once p horizon falls;
  none-later = cover-none p horizon falls;
  depth-grows = depth-grows p;
  breadth-grows = breadth-grows p;
  held-at-most = holding-depth p;
  cover-at-most = cover-breadth p;
  depth-at-most = depth_le p;
  breadth-at-most = breadth-le p;
  same-cover = λ q n h same. cover-same p q n same (λ t l u. falls t l (le_trans u h));
  same-depth = depth_same p;
  same-breadth = λ q n h same. breadth-same p q n same (λ t l u. falls t l (le_trans u h));
}
