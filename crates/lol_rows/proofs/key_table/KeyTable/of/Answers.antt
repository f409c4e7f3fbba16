use Rattle.std.proofs.Common.{arith, ap, List, ℕ, get_or, length, subst, ◌≡◌}
use Rattle.lol_rows.proofs.Listed.{AreListed, addresses_rise_in_rows, are_members, hashes_rise, none_listed, one_more, rise_where_equal}
use Rattle.lol_rows.proofs.key_table.KeyTable.of.Goals as goal

pub loop-address-init : goal.loop-address-init
loop-address-init c = (none_listed c.args.hashes.items c.in_ok-entries.entries.items c.in_ok-entries.ensures.items, omega (arith, c.in_ok-entries.ensures.capacity, c.len-2.ensures))

pub push_reserved-requires : goal.push_reserved-requires
push_reserved-requires c = omega (arith, c.loop-address.invariant.0.many, c.loop-address.invariant.1, c.loop-address-test.true, ap length c.deref-hash-items.ensures.value)

pub loop-address-preserved : goal.loop-address-preserved
loop-address-preserved c = (
  one_more c.args.hashes.items c.loop-address.address c.loop-address.entries.items c.push_reserved.new.self.items _ c.loop-address.invariant.0 (ap (λ (l : List ℕ). get_or l c.loop-address.address 0) c.deref-hash-items.ensures.value) c.push_reserved.ensures.items,
  omega (arith, c.loop-address.invariant.1, c.push_reserved.ensures.capacity),
)

pub returns : goal.returns
returns c =
    let hashes = c.args.hashes.items in
    let entries = c.loop-address.entries.items in
    let sorted = c.sort_unstable.new.self.items in
    let all : c.loop-address.address ≡ length hashes = omega (arith, c.loop-address.auto.address-end, c.loop-address-test.false, ap length c.deref-hash-items.ensures.value) in
    let listed : AreListed hashes (length hashes) entries = subst (λ n. AreListed hashes n entries) all c.loop-address.invariant.0 in
    let by_hash = hashes_rise sorted c.sort_unstable.ensures.sorted in
    record {
      few = omega (arith, c.if-len.false, c.len.ensures);
      members = are_members hashes entries sorted listed c.sort_unstable.ensures.permutation;
      by_hash = by_hash;
      by_address = rise_where_equal sorted by_hash (addresses_rise_in_rows sorted c.sort_unstable.ensures.sorted);
    }
