use Rattle.std.proofs.Common.{◌≡◌}
use Rattle.plot_size.specs.Sizes.{first_asked, longest_side, sides_asked}
use Rattle.plot_size.proofs.asked.page_asked.Given as goal

-- the items that are left decide
abbrev pub invariant-loop-item : goal.invariant-loop-item
invariant-loop-item l = first_asked (longest_side l.fn.profile) l.page l.plot l.item-iterator ≡ sides_asked l.fn.profile l.page l.plot
