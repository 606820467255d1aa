-- Members of channels, in ascending order.
use Rattle.std.specs.Prelude.{Bool, List}
use Rattle.std.specs.List.{list_any}
use Rattle.std.specs.Ordering.{nat_cmp, ordering_then}
use Rattle.std.specs.declared.cmp.Ordering.{Ordering}
use Rattle.std.specs.Set.{remove_key}
use Rattle.std.specs.BTreeMap.{is_at}
use Rattle.std.specs.BTreeSet.{insert_key}
use Rattle.nc_owner.specs.declared.member.Member.{Member}

-- by worker, then by number
abbrev pub member_cmp : Member → Member → Ordering
member_cmp a b = ordering_then (nat_cmp a.from b.from) (nat_cmp a.k b.k)

abbrev pub has_member : Member → List Member → Bool
has_member m ms = list_any (is_at (member_cmp m)) ms

-- with a member more, unless it is there
abbrev pub with_member : Member → List Member → List Member
with_member m ms = insert_key member_cmp ms m

-- without a member, if it is there
abbrev pub without_member : Member → List Member → List Member
without_member m ms = remove_key (is_at (member_cmp m)) ms
