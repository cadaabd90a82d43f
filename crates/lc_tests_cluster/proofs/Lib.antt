mod OwnSeats
