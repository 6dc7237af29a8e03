use Rattle.field_output.proofs.stripe_files.Room.new.Goals as goal

pub returns : goal.returns
returns c = record {
  name = c.in_ok-room_for_names.ensures;
  each = c.in_ok-with_capacity.ensures.items;
  each_room = c.in_ok-with_capacity.ensures.capacity;
  choice = c.in_ok-new.ensures;
}
